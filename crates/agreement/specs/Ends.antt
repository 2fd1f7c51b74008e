-- The two ends of a transcript: the prover's challenger and the verifier's.
use Rattle.std.specs.Prelude.{◌≡◌, ℕ, ◌≤◌, List, length, take, drop, Some, None, Option, Result, MatchOption, IfSome, IfErr, IsTrue, IsFalse}
use Rattle.refusal.specs.declared.Refusal.{Refusal}
use Rattle.domain.specs.Arithmetic.{Arithmetic}
use Rattle.sponge.specs.Sponge.{SpongeMake}
use Rattle.runs.specs.declared.call.Call.{Call}
use Rattle.runs.specs.declared.answer.Answer.{Answer}
use Rattle.runs.specs.Runs.{Rule, party, Run, repeated_calls, has_places, Agree}
use Rattle.runs.specs.Interface.{EachRefusedAsChecksAre}
use Rattle.agreement.specs.declared.ends.Ends.{Ends}
use Rattle.agreement.specs.declared.ends.Rehearsal.{Rehearsal}
use Rattle.agreement.specs.declared.across.Across.{Across}

-- what is put together is asked from below: the first no of what is below, and else of what is above
abbrev pub or_above : Option Refusal → Option Refusal → Option Refusal
or_above None above = above
or_above (Some e) above = Some e

-- a sponge over this domain and image, of this WIDTH and RATE
abbrev pub sponge_make : {order : ℕ} → Arithmetic order → (List ℕ → List ℕ) → ℕ → ℕ → SpongeMake order
sponge_make d image width rate = record { arithmetic = d; image = image; width = width; rate = rate }

-- a challenger C, with what making it fixed and what it holds
module _ {C Make Held : Type 0} (make : C → Make) (held : C → Held) where
  -- both ends were made alike: making fixed the same, and both hold the same
  pub record AreAlike (ends : Ends C) : Type 0 where
    pub same_make : make ends.prover ≡ make ends.verifier
    pub same_held : held ends.prover ≡ held ends.verifier

-- the slices that are lent for the prover's answers and for the verifier's
pub record Slices : Type 0 where
  pub proved : List Answer
  pub said : List Answer

abbrev pub slices : List Answer → List Answer → Slices
slices proved said = record { proved = proved; said = said }

-- two ends by their rules: they held p₀ and v₀, and hold p₁ and v₁ now
module _ {Held : Type 0} (prover verifier : Rule Held) (p₀ v₀ p₁ v₁ : Held) (calls : List Call) (before after : Slices) where
  -- a slice for answers is not as long as the calls: nothing moved
  pub record Unplayed : Type 0 where
    pub places : IsFalse (has_places calls before.proved before.said)
    pub prover_still : p₁ ≡ p₀
    pub verifier_still : v₁ ≡ v₀
    pub slices_still : after ≡ before

  -- the calls were played on both ends; the verifier got so many answers
  pub record Played (count : ℕ) : Type 0 where
    pub places : IsTrue (has_places calls before.proved before.said)
    pub proves : Run prover calls (party p₀ after.proved p₁)
    pub verifies : Run verifier (repeated_calls calls after.proved) (party v₀ (take count after.said) v₁)
    pub counted : count ≡ length (repeated_calls calls after.proved)
    pub few : count ≤ length after.said
    pub refusals : EachRefusedAsChecksAre calls after.proved × EachRefusedAsChecksAre (repeated_calls calls after.proved) (take count after.said)
    pub rest : drop count after.said ≡ drop count before.said

  abbrev pub PlayedIfPlaces : Option ℕ → Type 0
  PlayedIfPlaces count = MatchOption count Unplayed Played

-- if the calls were played, the two ends, which held p₀ and v₀ and hold p₁ and v₁ now, agree
abbrev pub AgreeIfPlayed : {Held : Type 0} (p₀ v₀ p₁ v₁ : Held) → List Call → Slices → Option ℕ → Type 0
AgreeIfPlayed p₀ v₀ p₁ v₁ calls after count = IfSome count (λ n. Agree calls (party p₀ after.proved p₁) (party v₀ (take n after.said) v₁))

-- two ends, perhaps of two Rust types: both makes mean k, and both held what such a challenger holds when it is made; then the calls were played on them, or nothing moved
pub record EndsAgree {P V Meaning Held : Type 0} (meaning : P → Meaning) (other_meaning : V → Meaning) (held : P → Held) (other_held : V → Held)
    (rule : Meaning → Rule Held) (fresh : Meaning → Held) (k : Meaning) (calls : List Call) (before after : Slices)
    (prover : P) (verifier : V) (count : Option ℕ) : Type 0 where
  pub prover_make : meaning prover ≡ k
  pub verifier_make : other_meaning verifier ≡ k
  pub played : PlayedIfPlaces (rule k) (rule k) (fresh k) (fresh k) (held prover) (other_held verifier) calls before after count
  pub agree : AgreeIfPlayed (fresh k) (fresh k) (held prover) (other_held verifier) calls after count

-- of ends of one type, which were both made with k
abbrev pub Agreed : {C Make Held : Type 0} → (C → Make) → (C → Held) → (Make → Rule Held) → (Make → Held) → Make → List Call → (before after : Slices) → Rehearsal C → Type 0
Agreed make held rule fresh k calls before after r = EndsAgree make make held held rule fresh k calls before after r.ends.prover r.ends.verifier r.count

-- of ends of two types, whose makes both mean k
abbrev pub AgreedAcross : {P V Meaning Held : Type 0} → (P → Meaning) → (V → Meaning) → (P → Held) → (V → Held) → (Meaning → Rule Held) → (Meaning → Held) → Meaning → List Call → (before after : Slices) → Across P V → Type 0
AgreedAcross meaning other_meaning held other_held rule fresh k calls before after a =
    EndsAgree meaning other_meaning held other_held rule fresh k calls before after a.prover a.verifier a.count

-- a make was refused: no slice moved
abbrev pub SlicesStay : {Made : Type 0} → Slices → Slices → Result Made Refusal → Type 0
SlicesStay before after result = IfErr result (λ _. after ≡ before)
