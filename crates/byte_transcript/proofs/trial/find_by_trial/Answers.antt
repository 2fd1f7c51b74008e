use Rattle.std.proofs.Common.{◌<◌, ◌≤◌, sym, ◌∙◌, arith, rules}
use Rattle.byte_transcript.proofs.Sought.{least_candidate-some, least_candidate-none}
use Rattle.byte_transcript.specs.Transcript.{candidate_count}
use Rattle.byte_transcript.proofs.trial.find_by_trial.Goals as goal

pub returns-then-passing : goal.returns-then-passing
returns-then-passing g c =
    let t = c.args.transcript.now in
    let m = g.T.ByteTranscript.meaning (g.T.Holding.make t) in
    let h = g.T.Holding.held_value t in
    let value = c.room.ensures in
    let r : 4 ≤ m.room h = omega arith in
    let lt : c.loop-candidate.candidate < candidate_count c.args.candidates = search rules in
    sym (least_candidate-some m h c.args.candidates c.args.mask c.loop-candidate.candidate r lt c.loop-candidate.invariant (sym c.passing.ensures ∙ c.if-passing.true))

pub returns : goal.returns
returns g c =
    let t = c.args.transcript.now in
    let m = g.T.ByteTranscript.meaning (g.T.Holding.make t) in
    let h = g.T.Holding.held_value t in
    let value = c.room.ensures in
    let r : 4 ≤ m.room h = omega arith in
    sym (least_candidate-none m h c.args.candidates c.args.mask r (λ k lt. c.loop-candidate.invariant k (omega arith)))
