-- What a prepared test is, and blocks but for their last word.
use Rattle.std.specs.Prelude.{◌≡◌, ℕ, ◌-◌, ◌%◌, ◌^◌, ◌<◌, ◌≤◌, List, length, ◌==◌, slice_set, IsTrue}
use Rattle.challenger_traits.specs.Meaning.{bits_fit}
use Rattle.challenger_traits.specs.Grinding.{Means, accepts}

-- what checks at h draw for each witness: of b bits, once the questions on bits are passed, the low ones are 0 for the codes that the check accepts
abbrev pub PredictsChecks : {Held : Type 0} → Means Held → Held → (ℕ → ℕ) → Type 0
PredictsChecks m h drawn_value = (b : ℕ) → IsTrue (bits_fit m.drawing.order b) → 1 ≤ b → (w : ℕ) → w < m.drawing.order → (drawn_value w % 2 ^ b == 0) ≡ accepts m h b w

-- the words with another code in the last place
abbrev pub with_last : List ℕ → ℕ → List ℕ
with_last words code = slice_set words (length words - 1) code
