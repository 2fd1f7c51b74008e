-- SHA-256 as FIPS 180-4 defines it, on bytes, by its sections. A word is a number below 2 ^ 32, a byte one below 2 ^ 8.
use Rattle.std.specs.Prelude.{ℕ, zero, suc, ◌+◌, ◌-◌, ◌*◌, ◌/◌, ◌%◌, ◌^◌, List, [], ◌∷◌, ◌++◌, map, length, replicate, fold, bit_and, bit_or, bit_xor, slice_index}
use Rattle.std.specs.List.{range_with_len}
use Rattle.std.specs.Simd.{first_chunks}
use Rattle.sha256.specs.declared.Words.{Words}

infixl 20 ◌⊞◌
-- 2.2.2 and 3.2: addition modulo 2 ^ 32, complement, rotation and shift to the right by k < 32
abbrev pub ◌⊞◌ : ℕ → ℕ → ℕ
x ⊞ y = (x + y) % 2 ^ 32

abbrev pub ¬32 : ℕ → ℕ
¬32 x = 2 ^ 32 - 1 - x

abbrev pub rotr : ℕ → ℕ → ℕ
rotr k x = bit_or (x / 2 ^ k) ((x * 2 ^ (32 - k)) % 2 ^ 32)

abbrev pub shr : ℕ → ℕ → ℕ
shr k x = x / 2 ^ k

-- 4.1.2: the functions
abbrev pub Ch : ℕ → ℕ → ℕ → ℕ
Ch x y z = bit_xor (bit_and x y) (bit_and (¬32 x) z)

abbrev pub Maj : ℕ → ℕ → ℕ → ℕ
Maj x y z = bit_xor (bit_xor (bit_and x y) (bit_and x z)) (bit_and y z)

abbrev pub Σ0 : ℕ → ℕ
Σ0 x = bit_xor (bit_xor (rotr 2 x) (rotr 13 x)) (rotr 22 x)

abbrev pub Σ1 : ℕ → ℕ
Σ1 x = bit_xor (bit_xor (rotr 6 x) (rotr 11 x)) (rotr 25 x)

abbrev pub σ0 : ℕ → ℕ
σ0 x = bit_xor (bit_xor (rotr 7 x) (rotr 18 x)) (shr 3 x)

abbrev pub σ1 : ℕ → ℕ
σ1 x = bit_xor (bit_xor (rotr 17 x) (rotr 19 x)) (shr 10 x)

-- 4.2.2: the constants
unfoldable pub K : List ℕ
K =
    0x428a2f98 ∷ 0x71374491 ∷ 0xb5c0fbcf ∷ 0xe9b5dba5 ∷ 0x3956c25b ∷ 0x59f111f1 ∷ 0x923f82a4 ∷ 0xab1c5ed5 ∷
    0xd807aa98 ∷ 0x12835b01 ∷ 0x243185be ∷ 0x550c7dc3 ∷ 0x72be5d74 ∷ 0x80deb1fe ∷ 0x9bdc06a7 ∷ 0xc19bf174 ∷
    0xe49b69c1 ∷ 0xefbe4786 ∷ 0x0fc19dc6 ∷ 0x240ca1cc ∷ 0x2de92c6f ∷ 0x4a7484aa ∷ 0x5cb0a9dc ∷ 0x76f988da ∷
    0x983e5152 ∷ 0xa831c66d ∷ 0xb00327c8 ∷ 0xbf597fc7 ∷ 0xc6e00bf3 ∷ 0xd5a79147 ∷ 0x06ca6351 ∷ 0x14292967 ∷
    0x27b70a85 ∷ 0x2e1b2138 ∷ 0x4d2c6dfc ∷ 0x53380d13 ∷ 0x650a7354 ∷ 0x766a0abb ∷ 0x81c2c92e ∷ 0x92722c85 ∷
    0xa2bfe8a1 ∷ 0xa81a664b ∷ 0xc24b8b70 ∷ 0xc76c51a3 ∷ 0xd192e819 ∷ 0xd6990624 ∷ 0xf40e3585 ∷ 0x106aa070 ∷
    0x19a4c116 ∷ 0x1e376c08 ∷ 0x2748774c ∷ 0x34b0bcb5 ∷ 0x391c0cb3 ∷ 0x4ed8aa4a ∷ 0x5b9cca4f ∷ 0x682e6ff3 ∷
    0x748f82ee ∷ 0x78a5636f ∷ 0x84c87814 ∷ 0x8cc70208 ∷ 0x90befffa ∷ 0xa4506ceb ∷ 0xbef9a3f7 ∷ 0xc67178f2 ∷ []

-- 5.3.3: the initial hash value
abbrev pub H0 : Words
H0 = record { a = 0x6a09e667; b = 0xbb67ae85; c = 0x3c6ef372; d = 0xa54ff53a; e = 0x510e527f; f = 0x9b05688c; g = 0x1f83d9ab; h = 0x5be0cd19 }

-- 5.1.1: a one bit, the fewest zero bits that leave 64 bits of a last block of 512, and the length in bits. The standard is for messages
-- below 2 ^ 64 bits; of a longer one the eight bytes hold the length modulo 2 ^ 64
abbrev pub be64 : ℕ → List ℕ
be64 n =
    (n / 2 ^ 56 % 256) ∷ (n / 2 ^ 48 % 256) ∷ (n / 2 ^ 40 % 256) ∷ (n / 2 ^ 32 % 256)
    ∷ (n / 2 ^ 24 % 256) ∷ (n / 2 ^ 16 % 256) ∷ (n / 2 ^ 8 % 256) ∷ (n % 256) ∷ []

-- after n bytes of the message, with z zero bytes
unfoldable pub ending : ℕ → ℕ → List ℕ
ending z n = 128 ∷ replicate z 0 ++ be64 (8 * n)

unfoldable pub padded_message : List ℕ → List ℕ
padded_message m = m ++ ending ((119 - length m % 64) % 64) (length m)

-- 5.2.1: blocks of 64 bytes, and the words of a block
abbrev pub blocks : List ℕ → List (List ℕ)
blocks bs = first_chunks 64 (length bs / 64) bs

abbrev pub word : List ℕ → ℕ → ℕ
word bs t = slice_index bs (4 * t) * 2 ^ 24 + slice_index bs (4 * t + 1) * 2 ^ 16 + slice_index bs (4 * t + 2) * 2 ^ 8 + slice_index bs (4 * t + 3)

unfoldable pub words : List ℕ → List ℕ
words bs = map (word bs) (range_with_len 0 16)

-- 6.2.2, step 1: the word W_t from those before it, and the first 16 + n words of the schedule
abbrev pub next : List ℕ → ℕ → ℕ
next ws t = σ1 (slice_index ws (t - 2)) ⊞ slice_index ws (t - 7) ⊞ σ0 (slice_index ws (t - 15)) ⊞ slice_index ws (t - 16)

abbrev pub with_next_word : List ℕ → ℕ → List ℕ
with_next_word ws t = ws ++ next ws t ∷ []

unfoldable pub schedule : ℕ → List ℕ → List ℕ
schedule zero m = m
schedule (suc n) m = with_next_word (schedule n m) (16 + n)

-- step 3, from the working variables of step 2: one round at the constant k and the word w, and the first t rounds
abbrev pub T1 : ℕ → ℕ → Words → ℕ
T1 k w s = s.h ⊞ Σ1 s.e ⊞ Ch s.e s.f s.g ⊞ k ⊞ w

abbrev pub T2 : Words → ℕ
T2 s = Σ0 s.a ⊞ Maj s.a s.b s.c

unfoldable pub round : ℕ → ℕ → Words → Words
round k w s =
    record { a = T1 k w s ⊞ T2 s; b = s.a; c = s.b; d = s.c; e = s.d ⊞ T1 k w s; f = s.e; g = s.f; h = s.g }

unfoldable pub rounds : ℕ → List ℕ → Words → Words
rounds zero ws s = s
rounds (suc t) ws s = round (slice_index K t) (slice_index ws t) (rounds t ws s)

-- step 4: the next hash value
abbrev pub plus : Words → Words → Words
plus s t =
    record { a = s.a ⊞ t.a; b = s.b ⊞ t.b; c = s.c ⊞ t.c; d = s.d ⊞ t.d; e = s.e ⊞ t.e; f = s.f ⊞ t.f; g = s.g ⊞ t.g; h = s.h ⊞ t.h }

unfoldable pub next_hash_value : Words → List ℕ → Words
next_hash_value s block = plus (rounds 64 (schedule 48 (words block)) s) s

-- 6.2.2, after the last block: the digest
abbrev pub be32 : ℕ → List ℕ
be32 x = (x / 2 ^ 24 % 256) ∷ (x / 2 ^ 16 % 256) ∷ (x / 2 ^ 8 % 256) ∷ (x % 256) ∷ []

unfoldable pub bytes : Words → List ℕ
bytes s = be32 s.a ++ be32 s.b ++ be32 s.c ++ be32 s.d ++ be32 s.e ++ be32 s.f ++ be32 s.g ++ be32 s.h

unfoldable pub sha256 : List ℕ → List ℕ
sha256 m = bytes (fold next_hash_value H0 (blocks (padded_message m)))
