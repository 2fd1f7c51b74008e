use Rattle.std.proofs.Common.{codes, rules, tests, lit<}
use Rattle.std.specs.Str.{bytes_eq}
use Rattle.std.proofs.lemmas.Iterator.Search.{any_from_yields_List}
use Rattle.std.proofs.lemmas.Iterator.Splits.{YieldsList-from_str_split}
use Rattle.player.proofs.playing.tells_bad_line.Goals as goal

pub returns : goal.returns
returns c =
    any_from_yields_List (λ l. bytes_eq l (codes "bad-line")) _ _ c.any.result c.any.ensures.ran (YieldsList-from_str_split 10 c.args.answers.now (lit< tt) (cc) (cc) (cc)) (λ x b q k. search (rules, tests))
