-- The answer of a call as a value, from what its method said.
use Rattle.std.specs.Prelude.{ℕ, Bool, Ok, Err, Result}
use Rattle.refusal.specs.declared.Refusal.{Refusal}
use Rattle.challenger_traits.specs.Meaning.{Reply, reply}
use Rattle.runs.specs.declared.answer.Answer.{Answer}
use Rattle.runs.specs.declared.answer.Answer.TheVariants.{Done, Code, Bits, Checked, Ground, Refused}

-- the answer that `tell` makes of what a method gave, or its refusal
abbrev pub answer_of : {Given : Type 0} → (Given → Answer) → Result Given Refusal → Answer
answer_of tell (Ok v) = tell v
answer_of tell (Err e) = Refused e

abbrev pub as_done : Result (Unit {0}) Refusal → Answer
as_done = answer_of (λ _. Done)

abbrev pub as_code : Result ℕ Refusal → Answer
as_code = answer_of Code

abbrev pub as_bits : Result ℕ Refusal → Answer
as_bits = answer_of Bits

abbrev pub as_checked : Result Bool Refusal → Answer
as_checked = answer_of Checked

abbrev pub as_ground : Result (ℕ × ℕ) Refusal → Answer
as_ground = answer_of (λ p. Ground p.0 p.1)

abbrev pub answer_reply : {Said Held : Type 0} → (Said → Answer) → Reply Said Held → Reply Answer Held
answer_reply f r = reply (f r.said) r.left
