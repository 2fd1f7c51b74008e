use Rattle.std.proofs.Common.{◌≡◌}
use Rattle.sampling.specs.Draws.{draw_below}
use Rattle.sampling.proofs.draws.draw_below.Given as goal

abbrev pub invariant-loop-value : goal.invariant-loop-value
invariant-loop-value g l =
    let d = g.C.CanDraw.draw_of (g.C.Holding.make l.initial.c) in
    (draw_below d l.bound l.rest (g.C.Holding.held_value l.c) ≡ draw_below d l.bound l.more (g.C.Holding.held_value l.initial.c))
    × (g.C.Holding.make l.c ≡ g.C.Holding.make l.initial.c)

abbrev pub decreases-loop-value : goal.decreases-loop-value
decreases-loop-value g l = l.rest
