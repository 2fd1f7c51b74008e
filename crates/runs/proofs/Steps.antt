-- What is called in the place of a call.
use Rattle.std.proofs.Common.{◌≡◌, ℕ, [], ◌∷◌, None, refl}
use Rattle.runs.specs.declared.call.Call.{Call}
use Rattle.runs.specs.declared.call.Call.TheVariants.{Grind}
use Rattle.runs.specs.declared.answer.Answer.{Answer}
use Rattle.runs.specs.declared.answer.Answer.TheVariants.{Done, Code, Bits, Checked, Ground, Refused, Absent}
use Rattle.runs.specs.Runs.{Kind, grinding, other, witness, calls_instead}

-- a call that is no grind is repeated
pub calls_instead-other : {c : Call} (k : Kind c) (a : Answer) → ((b n : ℕ) → c ≡ Grind b n → ⊥) → c ∷ [] ≡ calls_instead k a
calls_instead-other (grinding b n) a no-grind = absurd (no-grind b n refl)
calls_instead-other (other c) a no-grind = refl

-- an answer that tells no witness
pub no_witness : (a : Answer) → ((w t : ℕ) → a ≡ Ground w t → ⊥) → witness a ≡ None
no_witness Done h = refl
no_witness (Code x) h = refl
no_witness (Bits x) h = refl
no_witness (Checked v) h = refl
no_witness (Ground w t) h = absurd (h w t refl)
no_witness (Refused e) h = refl
no_witness Absent h = refl
