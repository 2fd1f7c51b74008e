-- Numbers observed, a witness checked after them, and a row drawn after that.
use Rattle.std.specs.Prelude.{ℕ, Bool, true, false, List, Some, None, Ok, Option, Result}
use Rattle.challengers.specs.Refusal.{Refusal}
use Rattle.challengers.specs.Meaning.{Reply, reply, and_then, observe_of, bits_of}
use Rattle.challengers.specs.Grinding.{Means, check_of, grind_of}

module _ {Held : Type 0} (m : Means Held) where
  abbrev pub observed_and_checked : Held → List ℕ → ℕ → ℕ → Reply (Result Bool Refusal) Held
  observed_and_checked h xs b w = and_then (observe_of (m.after_observe h xs) h) (λ u left. check_of m left b w)

  -- the witness that a grind finds once the numbers are observed
  abbrev pub observed_and_ground : Held → List ℕ → ℕ → ℕ → Reply (Result ℕ Refusal) Held
  observed_and_ground h xs b n = and_then (observe_of (m.after_observe h xs) h) (λ u left. and_then (grind_of m left b n) (λ found after. reply (Ok found.0) after))

  -- and a row among 2^rows, drawn after it
  abbrev pub row_after_witness : Held → List ℕ → ℕ → ℕ → ℕ → Reply (Result (ℕ × ℕ) Refusal) Held
  row_after_witness h xs b n rows = and_then (observed_and_ground h xs b n) (λ w left. and_then (bits_of m.drawing left rows) (λ row after. reply (Ok (w, row)) after))

  -- a row among 2^rows, if the check said yes
  abbrev pub row_if : ℕ → Bool → Held → Reply (Result (Option ℕ) Refusal) Held
  row_if rows true h = and_then (bits_of m.drawing h rows) (λ row left. reply (Ok (Some row)) left)
  row_if rows false h = reply (Ok None) h

  abbrev pub checked_row : Held → List ℕ → ℕ → ℕ → ℕ → Reply (Result (Option ℕ) Refusal) Held
  checked_row h xs b w rows = and_then (observed_and_checked h xs b w) (row_if rows)
