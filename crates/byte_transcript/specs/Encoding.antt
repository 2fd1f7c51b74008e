-- Numbers as bytes, least significant first.
use Rattle.std.specs.Prelude.{ℕ, ◌/◌, ◌%◌, List, [], ◌∷◌, ◌++◌, take}

abbrev pub eight_bytes : ℕ → List ℕ
eight_bytes x =
    (x % 256)
    ∷ (x / 256 % 256)
    ∷ (x / 65536 % 256)
    ∷ (x / 16777216 % 256)
    ∷ (x / 4294967296 % 256)
    ∷ (x / 1099511627776 % 256)
    ∷ (x / 281474976710656 % 256)
    ∷ (x / 72057594037927936 % 256)
    ∷ []

-- the first bytes of a 64-bit number
abbrev pub low_bytes : ℕ → ℕ → List ℕ
low_bytes size x = take size (eight_bytes x)

-- each number as so many bytes, in turn
abbrev pub encoded_numbers : ℕ → List ℕ → List ℕ
encoded_numbers size [] = []
encoded_numbers size (x ∷ xs) = low_bytes size x ++ encoded_numbers size xs
