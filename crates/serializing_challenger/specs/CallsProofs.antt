-- Proof only, not to be read to believe a contract: a check stands in a grind's place, what is lent is read wherever it lies, and over transcripts that mean the same each call means the same.
use Rattle.std.specs.Prelude.{ℕ, refl}
use Rattle.std.proofs.Common.{ap}
use Rattle.challenger_traits.specs.Meaning.{observe_of}
use Rattle.runs.specs.declared.call.Call.TheVariants.{ObserveDigestBytes, ObserveDigestWords, SampleWithin, UniformBits}
use Rattle.runs.specs.Answers.{as_done, as_code, as_bits, answer_reply}
use Rattle.runs.specs.Runs.{ChecksStand, SameRules}
use Rattle.runs.specs.Lent.{ReadsNumbers}
use Rattle.runs.specs.InterfaceProofs.{interface_stands, interface_reads, interface_same}
use Rattle.byte_transcript.specs.Transcript.{Transcript, StaysHeld}
use Rattle.byte_transcript.specs.SameTranscript.{SameTranscript}
use Rattle.byte_transcript.specs.SameTranscriptProofs.{observed-same}
use Rattle.byte_transcript.specs.Encoding.{encoded_numbers}
use Rattle.serializing_challenger.specs.Rules.{means}
use Rattle.serializing_challenger.specs.RulesProofs.{same_means, sample-same, uniform-same}
use Rattle.serializing_challenger.specs.Calls.{own_rule, rule}

module _ {Held : Type 0} (order : ℕ) (m : Transcript Held) where
  pub stands : ChecksStand (rule order m)
  stands = interface_stands (means order m) (own_rule order m)

  own_reads : ReadsNumbers (own_rule order m)
  own_reads h (SampleWithin l) = refl
  own_reads h _ = refl

  pub reads : ReadsNumbers (rule order m)
  reads = interface_reads (means order m) (own_rule order m) own_reads

module _ {Held : Type 0} (order : ℕ) (m n : Transcript Held) (stays : StaysHeld m) (same : SameTranscript m n) where
  same_own : SameRules m.can_be_held (own_rule order m) (own_rule order n)
  same_own h (ObserveDigestBytes xs) ok = ap (λ r. answer_reply as_done (observe_of r h)) (observed-same m n stays same h xs.now ok)
  same_own h (ObserveDigestWords xs) ok = ap (λ r. answer_reply as_done (observe_of r h)) (observed-same m n stays same h (encoded_numbers 8 xs.now) ok)
  same_own h (SampleWithin l) ok = ap (answer_reply as_code) (sample-same order m n stays same h l ok)
  same_own h (UniformBits b l) ok = ap (answer_reply as_bits) (uniform-same order m n stays same h b l ok)
  same_own h _ ok = refl

  pub same_rules : SameRules m.can_be_held (rule order m) (rule order n)
  same_rules = interface_same m.can_be_held (means order m) (means order n) (same_means order m n stays same) (own_rule order m) (own_rule order n) same_own
