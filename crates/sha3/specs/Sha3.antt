-- SHA3-256 as FIPS 202 defines it, on bytes, by its sections.
use Rattle.std.specs.Prelude.{ℕ, ◌+◌, ◌-◌, ◌*◌, ◌/◌, ◌%◌, ◌^◌, List, [], ◌∷◌, ◌++◌, length, replicate, fold, bit_or, bit_xor, slice_index, slice_set}
use Rattle.std.specs.Simd.{first_chunks}
use Rattle.keccak_spec.specs.Keccak.{lanes, keccak_f}

-- 3.1.2: eight bytes are a lane, low byte first; 4: a block of 136 bytes goes into the first 17 lanes; the rest, the capacity, stays
abbrev pub lane : List ℕ → ℕ → ℕ
lane bs i =
    slice_index bs (8 * i) + slice_index bs (8 * i + 1) * 2 ^ 8 + slice_index bs (8 * i + 2) * 2 ^ 16 + slice_index bs (8 * i + 3) * 2 ^ 24
    + slice_index bs (8 * i + 4) * 2 ^ 32 + slice_index bs (8 * i + 5) * 2 ^ 40 + slice_index bs (8 * i + 6) * 2 ^ 48 + slice_index bs (8 * i + 7) * 2 ^ 56

abbrev pub mixed_lane : List ℕ → List ℕ → ℕ → ℕ
mixed_lane a bs i = bit_xor (slice_index a i) (lane bs i)

unfoldable pub state_with_block : List ℕ → List ℕ → List ℕ
state_with_block a bs = lanes (mixed_lane a bs)

-- 4: the sponge takes a block in
unfoldable pub state_after_block : List ℕ → List ℕ → List ℕ
state_after_block a block = keccak_f (state_with_block a block)

-- 5.1 and 6.1: the bits 01 of SHA-3, a one, zeros, and a one at the end of the block. Low bits come first, so these are the byte 6,
-- zeros, and 128 added to the last byte, which may be the 6
abbrev pub with_last_bit : List ℕ → List ℕ
with_last_bit bs = slice_set bs (length bs - 1) (bit_or (slice_index bs (length bs - 1)) 128)

unfoldable pub padded_message : List ℕ → List ℕ
padded_message m = m ++ with_last_bit (6 ∷ replicate (135 - length m % 136) 0)

-- 4: the blocks of 136 bytes
abbrev pub blocks : List ℕ → List (List ℕ)
blocks bs = first_chunks 136 (length bs / 136) bs

-- 4 and 6.1: the digest is the first 256 bits of the state after the last block
abbrev pub le64 : ℕ → List ℕ
le64 x =
    (x % 256) ∷ (x / 2 ^ 8 % 256) ∷ (x / 2 ^ 16 % 256) ∷ (x / 2 ^ 24 % 256)
    ∷ (x / 2 ^ 32 % 256) ∷ (x / 2 ^ 40 % 256) ∷ (x / 2 ^ 48 % 256) ∷ (x / 2 ^ 56 % 256) ∷ []

unfoldable pub digest_of_state : List ℕ → List ℕ
digest_of_state a = le64 (slice_index a 0) ++ le64 (slice_index a 1) ++ le64 (slice_index a 2) ++ le64 (slice_index a 3)

-- 6.1: the sponge starts at zeros
unfoldable pub sha3_256 : List ℕ → List ℕ
sha3_256 m = digest_of_state (fold state_after_block (replicate 25 0) (blocks (padded_message m)))
