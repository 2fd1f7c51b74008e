-- Rows of codes, and what every permutation of them obeys.
use Rattle.std.specs.Prelude.{◌≡◌, ℕ, ◌<◌, ◌≤◌, List, length, slice_index}
use Rattle.permutation.specs.declared.TheConstants.{GREATEST_WIDTH}

-- every number of the list is a code
abbrev pub HasOnlyCodes : ℕ → List ℕ → Type 0
HasOnlyCodes order xs = (k : ℕ) → k < length xs → slice_index xs k < order

-- a row has 2 cells or more, up to the greatest width, all codes
pub record IsRow (order : ℕ) (xs : List ℕ) : Type 0 where
  pub wide : 2 ≤ length xs
  pub bounded : length xs ≤ GREATEST_WIDTH
  pub codes : HasOnlyCodes order xs

-- rows go to rows of the same width, and no two of one width to the same
pub record IsLawful (order : ℕ) (image : List ℕ → List ℕ) : Type 0 where
  pub keeps_length : (xs : List ℕ) → IsRow order xs → length (image xs) ≡ length xs
  pub keeps_codes : (xs : List ℕ) → IsRow order xs → HasOnlyCodes order (image xs)
  pub injective : (xs ys : List ℕ) → IsRow order xs → IsRow order ys → length xs ≡ length ys → image xs ≡ image ys → xs ≡ ys
