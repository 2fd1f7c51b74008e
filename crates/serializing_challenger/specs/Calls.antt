-- The calls of a serializing challenger as values.
use Rattle.std.specs.Prelude.{ℕ}
use Rattle.challenger_traits.specs.Meaning.{reply, observe_of}
use Rattle.runs.specs.declared.call.Call.TheVariants.{ObserveDigestBytes, ObserveDigestWords, SampleWithin, UniformBits}
use Rattle.runs.specs.declared.answer.Answer.TheVariants.{Absent}
use Rattle.runs.specs.Answers.{as_done, as_code, as_bits, answer_reply}
use Rattle.runs.specs.Runs.{Rule}
use Rattle.runs.specs.Interface.{interface_rule}
use Rattle.byte_transcript.specs.Transcript.{Transcript, after_observe_bytes}
use Rattle.byte_transcript.specs.Encoding.{encoded_numbers}
use Rattle.serializing_challenger.specs.Rules.{sample_of, uniform_of, means}

module _ {Held : Type 0} (order : ℕ) (m : Transcript Held) where
  -- the calls beside those of the interface; a digest is one of bytes or of 64-bit words, and a sample has a draw limit
  abbrev pub own_rule : Rule Held
  own_rule h (ObserveDigestBytes xs) = answer_reply as_done (observe_of (after_observe_bytes m h xs.now) h)
  own_rule h (ObserveDigestWords xs) = answer_reply as_done (observe_of (after_observe_bytes m h (encoded_numbers 8 xs.now)) h)
  own_rule h (SampleWithin l) = answer_reply as_code (sample_of order m h l)
  own_rule h (UniformBits b limit) = answer_reply as_bits (uniform_of order m h b limit)
  own_rule h c = reply Absent h

  -- what each call says and leaves
  abbrev pub rule : Rule Held
  rule = interface_rule (means order m) own_rule
