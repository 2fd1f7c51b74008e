-- The calls of a multi-field challenger beside those of the interface.
use Rattle.std.specs.Prelude.{ℕ, refl}
use Rattle.challenger_traits.specs.Meaning.{reply, observe_of}
use Rattle.runs.specs.declared.call.Call.TheVariants.{ObserveDigest, Sample}
use Rattle.runs.specs.declared.answer.Answer.TheVariants.{Code, Absent}
use Rattle.runs.specs.Answers.{as_done, answer_reply}
use Rattle.runs.specs.Runs.{Rule}
use Rattle.runs.specs.Lent.{ReadsNumbers}
use Rattle.runs.specs.Interface.{interface_rule}
use Rattle.sponge.specs.Sponge.{SpongeMake}
use Rattle.multi_field_challenger.specs.declared.held.MultiHeld.{MultiHeld}
use Rattle.multi_field_challenger.specs.Rules.{after_observe_digest, sample_of, means}

module _ {order : ℕ} (sampled : ℕ) (k : SpongeMake order) where
  -- what each says and leaves; a call that it does not have moves nothing
  abbrev pub own_rule : Rule MultiHeld
  own_rule h (ObserveDigest ws) = answer_reply as_done (observe_of (after_observe_digest sampled k h ws.now) h)
  own_rule h Sample = answer_reply Code (sample_of sampled k h)
  own_rule h _ = reply Absent h

  -- what each call says and leaves
  abbrev pub rule : Rule MultiHeld
  rule = interface_rule (means sampled k) own_rule

  -- each call by itself, the second line for all that are not named
  pub own_reads : ReadsNumbers own_rule
  own_reads h Sample = refl
  own_reads h _ = refl
