-- What making gives.
use Rattle.std.specs.Prelude.{◌≡◌, Some, None, Option, Result, MatchResult}
use Rattle.refusal.specs.declared.Refusal.{Refusal}

-- made, unless a question said no: with no such question it is as told, and else the refusal is that of the first
abbrev pub MadeUnless : {Made : Type 0} → Option Refusal → (Made → Type 0) → Result Made Refusal → Type 0
MadeUnless question IsAsTold result = MatchResult result (λ made. (question ≡ None) × IsAsTold made) (λ refusal. question ≡ Some refusal)
