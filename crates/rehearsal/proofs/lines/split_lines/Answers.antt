use Rattle.std.proofs.Common.{◌+◌, ◌-◌, ◌^◌, min, rules, tests, lit<}
use Rattle.std.proofs.lemmas.Iterator.{YieldsList-from_map_by}
use Rattle.std.proofs.lemmas.Iterator.Consumers.{map_from_collect, YieldsList-from_enumerate}
use Rattle.std.proofs.lemmas.Iterator.Splits.{YieldsList-from_str_split}
use Rattle.rehearsal.specs.Lines.{line_of}
use Rattle.rehearsal.proofs.lines.split_lines.Goals as goal

pub returns : goal.returns
returns c =
    map_from_collect _ c.collect.ensures.ran
    (YieldsList-from_map_by _ line_of (λ p. (min (p.0 + 1) (2 ^ 64 - 1), p.1)) (YieldsList-from_enumerate (YieldsList-from_str_split 10 c.args.text.now (lit< tt) (cc) (cc) (cc)) (cc)) c.map.ensures.closure (λ x r q k. search (rules, tests)))
