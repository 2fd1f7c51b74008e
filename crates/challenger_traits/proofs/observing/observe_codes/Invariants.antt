use Rattle.std.proofs.Common.{◌≡◌, true, drop}
use Rattle.domain.specs.Codes.{all_codes}
use Rattle.challenger_traits.specs.Observing.{after_codes}
use Rattle.challenger_traits.proofs.observing.observe_codes.Given as goal

abbrev pub invariant-loop-code : goal.invariant-loop-code
invariant-loop-code g l =
    let after_code = g.C.CanObserveCode.after_code (g.C.Holding.make l.initial.c) in
    (after_codes after_code (g.C.Holding.held_value l.c) (drop l.code-index l.codes) ≡ after_codes after_code (g.C.Holding.held_value l.initial.c) l.codes)
    × (g.C.Holding.make l.c ≡ g.C.Holding.make l.initial.c)
    × (all_codes g.row.ORDER (drop l.code-index l.codes) ≡ true)
