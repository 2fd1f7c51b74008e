use Rattle.std.proofs.Common.{◌≡◌}
use Rattle.challenger_traits.specs.Grinding.{at_make, NoneBelow}
use Rattle.prepared_grind.proofs.search.grind_prepared.Given as goal

abbrev pub invariant-loop-w : goal.invariant-loop-w
invariant-loop-w g l =
    let m = at_make g.C.CanObserve.after_observe g.C.CanSampleBits.drawing g.C.CanStartCheck.check_start (g.C.Holding.make l.initial.c) in
    (l.c ≡ l.initial.c) × NoneBelow m (g.C.Holding.held_value l.initial.c) l.bits l.w
