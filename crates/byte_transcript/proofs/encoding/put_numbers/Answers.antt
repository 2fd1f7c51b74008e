use Rattle.std.proofs.Common.{◌≡◌, ◌+◌, true, ◌++◌, get_or, drop, sym, ap, ◌∙◌}
use Rattle.std.proofs.lemmas.List.{at_drop_more}
use Rattle.byte_transcript.specs.Transcript.{after_bytes, fits}
use Rattle.byte_transcript.specs.Encoding.{low_bytes, encoded_numbers}
use Rattle.byte_transcript.proofs.Fitting.{after_bytes-append, fits-then}
use Rattle.byte_transcript.proofs.encoding.put_numbers.Goals as goal

pub loop-number-preserved : goal.loop-number-preserved
loop-number-preserved g c =
    let m = g.T.ByteTranscript.meaning (g.T.Holding.make c.args.transcript.now) in
    let s = g.T.Holding.held_value c.loop-number.transcript in
    let size = c.args.size in
    let xs = c.args.numbers.now in
    let i = c.loop-number.number-index in
    let x = get_or xs i 0 in
    let rest = encoded_numbers size (drop (i + 1) xs) in
    let ok : fits m s (low_bytes size x ++ rest) ≡ true =
    sym (at_drop_more (λ ys. fits m s (encoded_numbers size ys)) xs i 0 c.loop-number-test.true) ∙ c.loop-number.invariant.2 in
    let is : g.T.Holding.held_value c.put_number.new.transcript ≡ after_bytes m s (low_bytes size x) =
    c.put_number.ensures.left ∙ ap (λ k. after_bytes (g.T.ByteTranscript.meaning k) s (low_bytes size x)) c.loop-number.invariant.0 in (
      c.put_number.ensures.kept ∙ c.loop-number.invariant.0,
      ap (λ h. after_bytes m h rest) is ∙ sym (after_bytes-append m s (low_bytes size x) rest)
          ∙ sym (at_drop_more (λ ys. after_bytes m s (encoded_numbers size ys)) xs i 0 c.loop-number-test.true) ∙ c.loop-number.invariant.1,
      ap (λ h. fits m h rest) is ∙ fits-then m s (low_bytes size x) rest ok,
    )
