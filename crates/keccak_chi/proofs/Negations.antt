-- The complement in a lane of χ: where it can be left out, since a lane of the row stands complemented.
use Rattle.std.proofs.Common.{◌≡◌, ℕ, ◌^◌, ◌<◌, List, slice_index, bit_and, bit_or, bit_xor, sym, ap, ◌∙◌, lt_of_le_of_lt, arith}
use Rattle.std.specs.Int.Bits.{or_add_and, xor_assoc}
use Rattle.std.proofs.lemmas.Nat.{xor_comm, or_lt, xor_lt, and_le_l, and_comm, and-not}
use Rattle.keccak_spec.specs.Keccak.{¬64}
use Rattle.keccak_spec.specs.Complemented.{ones}
use Rattle.keccak_spec.proofs.Complementing.{xor_ones, xor_twice}

-- where both lanes stand complemented, `&` becomes `|`
neither : (c d : ℕ) → c < 2 ^ 64 → d < 2 ^ 64 → bit_and (¬64 c) (¬64 d) ≡ ¬64 (bit_or c d)
neither c d hc hd =
    omega (arith, and-not 64 c (¬64 d) hc (omega arith), and-not 64 d c hd hc, and_comm c (¬64 d), and_comm c d, or_add_and c d)

-- the two operands of a lane's `&`, by which of them stand complemented
second : (c d : ℕ) → c < 2 ^ 64 → bit_and (¬64 (bit_xor ones c)) d ≡ bit_and c d
second c d hc = ap (λ x. bit_and (¬64 x) d) (xor_ones c hc) ∙ ap (λ x. bit_and x d) (omega arith)

third : (c d : ℕ) → c < 2 ^ 64 → d < 2 ^ 64 → bit_and (¬64 c) (bit_xor ones d) ≡ bit_xor ones (bit_or c d)
third c d hc hd = ap (bit_and (¬64 c)) (xor_ones d hd) ∙ neither c d hc hd ∙ sym (xor_ones (bit_or c d) (or_lt 64 c d hc hd))

both : (c d : ℕ) → c < 2 ^ 64 → d < 2 ^ 64 → bit_and (¬64 (bit_xor ones c)) (bit_xor ones d) ≡ bit_xor ones (bit_or (¬64 c) d)
both c d hc hd = ap (λ x. bit_and (¬64 x) (bit_xor ones d)) (xor_ones c hc) ∙ third (¬64 c) d (omega arith) hd

none : (c d : ℕ) → c < 2 ^ 64 → d < 2 ^ 64 → bit_and (¬64 c) d ≡ bit_xor ones (bit_or c (¬64 d))
none c d hc hd =
    let back : d ≡ ¬64 (¬64 d) = omega arith in
    ap (bit_and (¬64 c)) (back ∙ sym (xor_ones (¬64 d) (omega arith))) ∙ third c (¬64 d) hc (omega arith)

-- a complement moves out of `^`, and two of them cancel
out_of_first : (b t : ℕ) → bit_xor (bit_xor ones b) t ≡ bit_xor ones (bit_xor b t)
out_of_first b t = xor_assoc ones b t

out_of_second : (b t : ℕ) → bit_xor b (bit_xor ones t) ≡ bit_xor ones (bit_xor b t)
out_of_second b t = sym (xor_assoc b ones t) ∙ ap (λ x. bit_xor x t) (xor_comm b ones) ∙ xor_assoc ones b t

cancel : (b t : ℕ) → bit_xor (bit_xor ones b) (bit_xor ones t) ≡ bit_xor b t
cancel b t = out_of_first b (bit_xor ones t) ∙ ap (bit_xor ones) (out_of_second b t) ∙ xor_twice ones (bit_xor b t)

-- ---- the lanes of χ, each from the lanes b, c and d at i, j and k; one that begins with `held` is itself held complemented
module _ (a : List ℕ) (h : (i : ℕ) → slice_index a i < 2 ^ 64) (i j k : ℕ) where
  abbrev b : ℕ
  b = slice_index a i

  abbrev c : ℕ
  c = slice_index a j

  abbrev d : ℕ
  d = slice_index a k

  pub not_or : ¬64 (bit_xor b (bit_or c d)) ≡ bit_xor b (bit_and (¬64 c) (bit_xor ones d))
  not_or =
      sym (xor_ones (bit_xor b (bit_or c d)) (xor_lt 64 b (bit_or c d) (h i) (or_lt 64 c d (h j) (h k)))) ∙ sym (out_of_second b (bit_or c d)) ∙ sym (ap (bit_xor b) (third c d (h j) (h k)))

  pub plain_and : bit_xor b (bit_and c d) ≡ bit_xor b (bit_and (¬64 (bit_xor ones c)) d)
  plain_and = sym (ap (bit_xor b) (second c d (h j)))

  pub or_not : bit_xor b (bit_or c (¬64 d)) ≡ bit_xor (bit_xor ones b) (bit_and (¬64 c) d)
  or_not = sym (ap (bit_xor (bit_xor ones b)) (none c d (h j) (h k)) ∙ cancel b (bit_or c (¬64 d)))

  pub plain_or : bit_xor b (bit_or c d) ≡ bit_xor (bit_xor ones b) (bit_and (¬64 c) (bit_xor ones d))
  plain_or = sym (ap (bit_xor (bit_xor ones b)) (third c d (h j) (h k)) ∙ cancel b (bit_or c d))

  pub not_and : ¬64 (bit_xor b (bit_and c d)) ≡ bit_xor (bit_xor ones b) (bit_and (¬64 (bit_xor ones c)) d)
  not_and =
      sym (xor_ones (bit_xor b (bit_and c d)) (xor_lt 64 b (bit_and c d) (h i) (lt_of_le_of_lt (and_le_l c d) (h j))))
      ∙ sym (ap (bit_xor (bit_xor ones b)) (second c d (h j)) ∙ out_of_first b (bit_and c d))

  pub held_or : bit_xor ones (bit_xor b (bit_or c d)) ≡ bit_xor b (bit_and (¬64 c) (bit_xor ones d))
  held_or = sym (ap (bit_xor b) (third c d (h j) (h k)) ∙ out_of_second b (bit_or c d))

  pub held_not_or : bit_xor ones (bit_xor b (bit_or (¬64 c) d)) ≡ bit_xor b (bit_and (¬64 (bit_xor ones c)) (bit_xor ones d))
  held_not_or = sym (ap (bit_xor b) (both c d (h j) (h k)) ∙ out_of_second b (bit_or (¬64 c) d))

  pub held_not_and : bit_xor ones (bit_xor b (bit_and (¬64 c) d)) ≡ bit_xor (bit_xor ones b) (bit_and (¬64 c) d)
  held_not_and = sym (out_of_first b (bit_and (¬64 c) d))

  pub held_and : bit_xor ones (bit_xor b (bit_and c d)) ≡ bit_xor (bit_xor ones b) (bit_and (¬64 (bit_xor ones c)) d)
  held_and = sym (ap (bit_xor (bit_xor ones b)) (second c d (h j)) ∙ out_of_first b (bit_and c d))
