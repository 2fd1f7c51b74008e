-- What making gave, by the contracts of making.
use Rattle.std.proofs.Common.{◌≡◌, ℕ, List, ◌++◌, Some, None, Ok, Err, Option, Result, IfOk, refl, subst}
use Rattle.refusal.specs.Made.{MadeUnless}
use Rattle.refusal.specs.declared.Refusal.{Refusal}
use Rattle.agreement.specs.declared.ends.Ends.{Ends}
use Rattle.agreement.specs.Ends.{AreAlike}
use Rattle.played.specs.Voices.{Voice}
use Rattle.rehearsal.specs.Lines.{PartText}
use Rattle.parts.specs.Scripts.{Way, Made, made_as, unless, told, made_part}

-- a making of both ends that fixes k and holds h, or is refused by its first no; what a script hears of a challenger is told by what making fixed
pub told_is : {C K Make Held : Type 0} (voice : K → Voice Held) (making : C → K) (held : C → Held) (make : C → Make) (no : Option Refusal) (k : K) (h : Held) (r : Result (Ends C) Refusal)
    → MadeUnless no (λ (e : Ends C). AreAlike make held e × (making e.prover ≡ k) × (held e.prover ≡ h)) r
    → told (λ (e : Ends C). voice (making e.prover)) (λ (e : Ends C). held e.prover) r ≡ unless no (made_as (voice k) h)
told_is voice making held make n k h (Ok c) m = rw (m.0, m.1.1, m.1.2) refl
told_is voice making held make n k h (Err e) m = rw m refl

-- what is written of it is written of what is the same
pub written_of : {A E Held : Type 0} (r : Result A E) (t u : List ℕ) (w : Way) (p : PartText) (m n : Result (Made Held) Refusal)
    → m ≡ n → IfOk r (λ x. t ≡ u ++ made_part w m p) → IfOk r (λ x. t ≡ u ++ made_part w n p)
written_of r t u w p m n e f = subst (λ m. IfOk r (λ x. t ≡ u ++ made_part w m p)) e f
