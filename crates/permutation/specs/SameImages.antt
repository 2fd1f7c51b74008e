-- When two permutations mean the same.
use Rattle.std.specs.Prelude.{◌≡◌, ℕ, List}
use Rattle.permutation.specs.Rows.{IsRow}

-- equal images of rows
abbrev pub SameImages : ℕ → (List ℕ → List ℕ) → (List ℕ → List ℕ) → Type 0
SameImages order f g = (row : List ℕ) → IsRow order row → f row ≡ g row
