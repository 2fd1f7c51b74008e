use Rattle.std.proofs.Common.{sym, ap, ◌∙◌, arith}
use Rattle.permutation.specs.Ladder.{ladder_step}
use Rattle.permutation.specs.LadderProofs.{step_row}
use Rattle.permutation.proofs.Steps.{steps_more}
use Rattle.permutation.proofs.ladder.round.Goals as goal

pub loop-i-preserved : goal.loop-i-preserved
loop-i-preserved g c =
    let d = g.D.Domain.arithmetic in
    let row = c.loop-i.invariant.0 in (
      rw c.step.ensures (step_row d c.args.r c.loop-i.i (omega (arith, row.bounded)) c.loop-i.row (omega arith) row),
      c.step.ensures ∙ ap (ladder_step d c.args.r c.loop-i.i) c.loop-i.invariant.1 ∙ sym (steps_more d c.args.r c.loop-i.i c.args.row.now),
    )
