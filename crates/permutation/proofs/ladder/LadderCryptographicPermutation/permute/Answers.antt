use Rattle.std.proofs.Common.{◌<◌, length, sym, ap, ◌∙◌, arith}
use Rattle.permutation.specs.Ladder.{ladder_steps}
use Rattle.permutation.specs.LadderProofs.{steps_row}
use Rattle.permutation.proofs.Steps.{rounds_more}
use Rattle.permutation.proofs.ladder.LadderCryptographicPermutation.permute.Goals as goal
use Rattle.refusal.specs.declared.limits.TheConstants.{MOST_ROUNDS}

pub loop-r-preserved : goal.loop-r-preserved
loop-r-preserved g c =
    let d = g.D.Domain.arithmetic in
    let r = c.loop-r.r in
    let now = c.loop-r.row in
    let few : r < MOST_ROUNDS = omega (arith, c.args.self.now.few) in (
      rw c.round.ensures (steps_row d r few (length now) now (omega arith) c.loop-r.invariant.0),
      c.round.ensures ∙ ap (λ w. ladder_steps d r w now) c.loop-r.auto.row ∙ ap (ladder_steps d r (length c.args.row.now)) c.loop-r.invariant.1 ∙ sym (rounds_more d r c.args.row.now),
    )
