use Rattle.std.proofs.Common.{◌+◌, ◌*◌, refl, arith}
use Rattle.sha256.specs.Sha256.{rounds}
use Rattle.sha256.proofs.Steps.{more_rounds}
use Rattle.sha256.proofs.all_rounds.Goals as goal

pub loop-turn-init : goal.loop-turn-init
unfolding rounds
loop-turn-init c = refl

pub loop-turn-preserved : goal.loop-turn-preserved
loop-turn-preserved c =
    let w = c.args.w.now in
    let s = c.args.s in
    let t = 8 * c.loop-turn.turn in
    let v1 = more_rounds w s t (t + 1) _ _ c.loop-turn.invariant c.round_of-v.ensures (omega arith) in
    let v2 = more_rounds w s (t + 1) (t + 2) _ _ v1 c.round_of-v-in-loop-turn.ensures (omega arith) in
    let v3 = more_rounds w s (t + 2) (t + 3) _ _ v2 c.round_of-v-in-loop-turn-2.ensures (omega arith) in
    let v4 = more_rounds w s (t + 3) (t + 4) _ _ v3 c.round_of-v-in-loop-turn-3.ensures (omega arith) in
    let v5 = more_rounds w s (t + 4) (t + 5) _ _ v4 c.round_of-v-in-loop-turn-4.ensures (omega arith) in
    let v6 = more_rounds w s (t + 5) (t + 6) _ _ v5 c.round_of-v-in-loop-turn-5.ensures (omega arith) in
    let v7 = more_rounds w s (t + 6) (t + 7) _ _ v6 c.round_of-v-in-loop-turn-6.ensures (omega arith) in
    more_rounds w s (t + 7) (8 * (c.loop-turn.turn + 1)) _ _ v7 c.round_of-v-in-loop-turn-7.ensures (omega arith)
