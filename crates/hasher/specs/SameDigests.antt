-- When two hash functions mean the same.
use Rattle.std.specs.Prelude.{◌≡◌, ℕ, List}

-- equal digests
abbrev pub SameDigests : (List ℕ → List ℕ) → (List ℕ → List ℕ) → Type 0
SameDigests f g = (m : List ℕ) → f m ≡ g m
