-- The calls of a duplex challenger beside those of the interface.
use Rattle.std.specs.Prelude.{ℕ, refl}
use Rattle.challenger_traits.specs.Meaning.{reply, observe_of}
use Rattle.runs.specs.declared.call.Call.TheVariants.{ObserveDigest, ObserveBytes, ObserveDigestBytes, Sample, UniformBits}
use Rattle.runs.specs.declared.answer.Answer.TheVariants.{Code, Absent}
use Rattle.runs.specs.Answers.{as_done, as_bits, answer_reply}
use Rattle.runs.specs.Runs.{Rule}
use Rattle.runs.specs.Lent.{ReadsNumbers}
use Rattle.runs.specs.Interface.{interface_rule}
use Rattle.sponge.specs.Sponge.{SpongeMake}
use Rattle.sampling.specs.Uniform.{uniform_of}
use Rattle.duplex_challenger.specs.declared.held.DuplexHeld.{DuplexHeld}
use Rattle.duplex_challenger.specs.Rules.{after_observe, sample_of, means}

module _ {order : ℕ} (k : SpongeMake order) where
  -- what each says and leaves; observing a digest is observing, so is observing bytes, which are codes of every domain; a call that it does not have moves nothing
  abbrev pub own_rule : Rule DuplexHeld
  own_rule h (ObserveDigest xs) = answer_reply as_done (observe_of (after_observe k h xs.now) h)
  own_rule h (ObserveBytes xs) = answer_reply as_done (observe_of (after_observe k h xs.now) h)
  own_rule h (ObserveDigestBytes xs) = answer_reply as_done (observe_of (after_observe k h xs.now) h)
  own_rule h Sample = answer_reply Code (sample_of k h)
  own_rule h (UniformBits b l) = answer_reply as_bits (uniform_of (sample_of k) order k.arithmetic.single h b l)
  own_rule h _ = reply Absent h

  -- what each call says and leaves
  abbrev pub rule : Rule DuplexHeld
  rule = interface_rule (means k) own_rule

  -- each call by itself, the second line for all that are not named
  pub own_reads : ReadsNumbers own_rule
  own_reads h Sample = refl
  own_reads h _ = refl
