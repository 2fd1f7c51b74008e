-- What every hash function obeys.
use Rattle.std.specs.Prelude.{◌≡◌, ℕ, ◌<◌, ◌≤◌, List, length, slice_index}
use Rattle.hasher.specs.declared.TheConstants.{LONGEST_DIGEST}

-- every number of the list is a byte
abbrev pub HasOnlyBytes : List ℕ → Type 0
HasOnlyBytes xs = (k : ℕ) → k < length xs → slice_index xs k < 256

-- digests have n bytes, at least one, and at most the longest
pub record IsHashFunction (n : ℕ) (digest : List ℕ → List ℕ) : Type 0 where
  pub some : 1 ≤ n
  pub most : n ≤ LONGEST_DIGEST
  pub size : (m : List ℕ) → length (digest m) ≡ n
  pub bytes : (m : List ℕ) → HasOnlyBytes (digest m)
