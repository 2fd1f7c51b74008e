-- Keccak-f[1600] as FIPS 202 defines it, by its sections. The state is a list of 25 lanes, numbers below 2 ^ 64: lane (x, y) stands at
-- i = x + 5 * y, so x is i % 5, y is i / 5, and the lane at x + 1 modulo 5 has the x (i + 1) % 5.
use Rattle.std.specs.Prelude.{ℕ, ◌+◌, ◌-◌, ◌*◌, ◌/◌, ◌%◌, ◌^◌, List, [], ◌∷◌, map, fold, bit_and, bit_or, bit_xor, slice_index, slice_set}
use Rattle.std.specs.List.{range_with_len}

-- complement of a lane, and rotation to the left by k
abbrev pub ¬64 : ℕ → ℕ
¬64 x = 2 ^ 64 - 1 - x

abbrev pub rotl : ℕ → ℕ → ℕ
rotl k x = bit_or ((x * 2 ^ (k % 64)) % 2 ^ 64) (x / 2 ^ ((64 - k % 64) % 64))

-- a state, lane by lane
abbrev pub lanes : (ℕ → ℕ) → List ℕ
lanes f = map f (range_with_len 0 25)

-- 3.2.1: the parity of column x, and each lane with the parities of columns x - 1 and, rotated, x + 1
abbrev pub column : List ℕ → ℕ → ℕ
column a x = bit_xor (bit_xor (bit_xor (bit_xor (slice_index a x) (slice_index a (x + 5))) (slice_index a (x + 10))) (slice_index a (x + 15))) (slice_index a (x + 20))

abbrev pub θ_at : List ℕ → ℕ → ℕ
θ_at a i = bit_xor (slice_index a i) (bit_xor (column a ((i + 4) % 5)) (rotl 1 (column a ((i + 1) % 5))))

unfoldable pub θ : List ℕ → List ℕ
θ a = lanes (θ_at a)

-- 3.2.2: the offsets of table 2 modulo 64, by place, and 3.2.3: lane (x, y) comes from lane (x + 3 y, x)
unfoldable pub offsets : List ℕ
offsets = 0 ∷ 1 ∷ 62 ∷ 28 ∷ 27 ∷ 36 ∷ 44 ∷ 6 ∷ 55 ∷ 20 ∷ 3 ∷ 10 ∷ 43 ∷ 25 ∷ 39 ∷ 41 ∷ 45 ∷ 15 ∷ 21 ∷ 8 ∷ 18 ∷ 2 ∷ 61 ∷ 56 ∷ 14 ∷ []

abbrev pub source : ℕ → ℕ
source i = (i % 5 + 3 * (i / 5)) % 5 + 5 * (i % 5)

abbrev pub ρπ_at : List ℕ → ℕ → ℕ
ρπ_at a i = rotl (slice_index offsets (source i)) (slice_index a (source i))

unfoldable pub ρπ : List ℕ → List ℕ
ρπ a = lanes (ρπ_at a)

-- 3.2.4: each lane with those at x + 1 and x + 2 of its row
abbrev pub χ_at : List ℕ → ℕ → ℕ
χ_at a i = bit_xor (slice_index a i) (bit_and (¬64 (slice_index a (5 * (i / 5) + (i + 1) % 5))) (slice_index a (5 * (i / 5) + (i + 2) % 5)))

unfoldable pub χ : List ℕ → List ℕ
χ a = lanes (χ_at a)

-- 3.2.5: the round constant goes into lane (0, 0)
abbrev pub ι : ℕ → List ℕ → List ℕ
ι rc a = slice_set a 0 (bit_xor (slice_index a 0) rc)

-- 3.3 and 3.4: a round, the constants of the 24 rounds, and Keccak-f[1600]
unfoldable pub round : List ℕ → ℕ → List ℕ
round a rc = ι rc (χ (ρπ (θ a)))

unfoldable pub constants : List ℕ
constants =
    0x0000000000000001 ∷ 0x0000000000008082 ∷ 0x800000000000808a ∷ 0x8000000080008000
    ∷ 0x000000000000808b ∷ 0x0000000080000001 ∷ 0x8000000080008081 ∷ 0x8000000000008009
    ∷ 0x000000000000008a ∷ 0x0000000000000088 ∷ 0x0000000080008009 ∷ 0x000000008000000a
    ∷ 0x000000008000808b ∷ 0x800000000000008b ∷ 0x8000000000008089 ∷ 0x8000000000008003
    ∷ 0x8000000000008002 ∷ 0x8000000000000080 ∷ 0x000000000000800a ∷ 0x800000008000000a
    ∷ 0x8000000080008081 ∷ 0x8000000000008080 ∷ 0x0000000080000001 ∷ 0x8000000080008008 ∷ []

unfoldable pub keccak_f : List ℕ → List ℕ
keccak_f a = fold round a constants
