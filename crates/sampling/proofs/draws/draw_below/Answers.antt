use Rattle.std.proofs.Common.{sym, ap, ◌∙◌}
use Rattle.challenger_traits.proofs.Checks.{does_by, did}
use Rattle.sampling.proofs.Bounded.{draw_accept, draw_again}
use Rattle.sampling.proofs.draws.draw_below.Goals as goal

pub loop-value-preserved : goal.loop-value-preserved
loop-value-preserved g c =
    let drew = c.draw-value.ensures.does in
    let inv = c.loop-value.invariant in
    let h = g.C.Holding.held_value c.loop-value.c in
    let is = ap (λ k. g.C.CanDraw.draw_of k h) (sym inv.1) ∙ did drew in
    (draw_again _ c.args.bound h _ _ is c.loop-value.rest c.if-rest-eq0.false c.if-value-bound.false ∙ inv.0, drew.same_make ∙ inv.1)

pub returns : goal.returns
returns g c =
    let drew = c.draw-value.ensures.does in
    let inv = c.loop-value.invariant in
    let h = g.C.Holding.held_value c.loop-value.c in
    let is = ap (λ k. g.C.CanDraw.draw_of k h) (sym inv.1) ∙ did drew in
    record { does = does_by (sym inv.0 ∙ draw_accept _ c.args.bound h _ _ is c.loop-value.rest c.if-value-bound.true) (drew.same_make ∙ inv.1); below = c.if-value-bound.true }
