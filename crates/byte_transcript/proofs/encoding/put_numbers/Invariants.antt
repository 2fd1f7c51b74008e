use Rattle.std.proofs.Common.{◌≡◌, true, drop}
use Rattle.byte_transcript.specs.Transcript.{after_bytes, fits}
use Rattle.byte_transcript.specs.Encoding.{encoded_numbers}
use Rattle.byte_transcript.proofs.encoding.put_numbers.Given as goal

abbrev pub invariant-loop-number : goal.invariant-loop-number
invariant-loop-number g l =
    let m = g.T.ByteTranscript.meaning (g.T.Holding.make l.initial.transcript) in
    let rest = encoded_numbers l.size (drop l.number-index l.numbers) in
    (g.T.Holding.make l.transcript ≡ g.T.Holding.make l.initial.transcript)
    × (after_bytes m (g.T.Holding.held_value l.transcript) rest ≡ after_bytes m (g.T.Holding.held_value l.initial.transcript) (encoded_numbers l.size l.numbers))
    × (fits m (g.T.Holding.held_value l.transcript) rest ≡ true)
