use Rattle.std.proofs.Common.{◌≡◌, ℕ, ◌<◌, false}
use Rattle.byte_transcript.specs.Transcript.{passes}
use Rattle.byte_transcript.proofs.trial.find_by_trial.Given as goal

abbrev pub invariant-loop-candidate : goal.invariant-loop-candidate
invariant-loop-candidate g l =
    (k : ℕ) → k < l.candidate →
    passes (g.T.ByteTranscript.meaning (g.T.Holding.make l.initial.transcript)) (g.T.Holding.held_value l.initial.transcript) l.mask k ≡ false
