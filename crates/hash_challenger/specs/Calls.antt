-- The calls of a hash challenger as values.
use Rattle.std.specs.Prelude.{ℕ, List, refl}
use Rattle.challenger_traits.specs.Meaning.{reply, observe_of}
use Rattle.runs.specs.declared.call.Call.TheVariants.{ObserveBytes, ObserveDigestBytes, Sample}
use Rattle.runs.specs.declared.answer.Answer.TheVariants.{Code, Absent}
use Rattle.runs.specs.Answers.{as_done, answer_reply}
use Rattle.runs.specs.Runs.{Rule, ChecksStand}
use Rattle.runs.specs.Lent.{ReadsNumbers}
use Rattle.hash_state.specs.declared.held.HashHeld.{HashHeld}
use Rattle.hash_state.specs.Rules.{after_observe, sample_of}

module _ (digest : List ℕ → List ℕ) where
  -- what each call says and leaves; observing a digest is observing, and a call that it does not have moves nothing
  abbrev pub rule : Rule HashHeld
  rule h (ObserveBytes xs) = answer_reply as_done (observe_of (after_observe h xs.now) h)
  rule h (ObserveDigestBytes xs) = answer_reply as_done (observe_of (after_observe h xs.now) h)
  rule h Sample = answer_reply Code (sample_of digest h)
  rule h _ = reply Absent h

  pub stands : ChecksStand rule
  stands h b n = refl

  pub reads : ReadsNumbers rule
  reads h Sample = refl
  reads h _ = refl
