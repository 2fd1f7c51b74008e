-- Complemented lanes through the steps of a round: θ, ρ and π are linear, and so take the masks along.
use Rattle.std.proofs.Common.{◌≡◌, ℕ, ◌+◌, ◌-◌, ◌*◌, ◌/◌, ◌%◌, ◌^◌, ◌<◌, List, length, slice_index, slice_set, bit_or, bit_xor, refl, sym, ap, ap₂, ◌∙◌, subst, inl, inr, zero-add, lt_of_le_of_lt, pow_pos, true, nat_lt, arith}
use Rattle.std.specs.Int.Bits.{xor_add_and, xor_self, xor_assoc, or_self}
use Rattle.std.proofs.lemmas.Nat.{and_comm, and_mask, xor_comm, or_lt, xor_lt, xor_mod, xor_shr, xor_block, or_shifted, mod-pow-add, shl-shr, shr_le, shr_below, mod_below}
use Rattle.std.proofs.Math.Nat.{mul-mod_left, mod-eq_of_lt, div-one, mul-one}
use Rattle.std.proofs.lemmas.Bool.{cases_lt, ltb-true}
use Rattle.std.proofs.lemmas.List.Elements.{All-get_or}
use Rattle.std.proofs.lemmas.List.Sums.{AllPass-from_list_all}
use Rattle.std.proofs.lemmas.List.FromFn.{length-map-range_with_len, get_or-map-range_with_len, fill_by_all}
use Rattle.keccak_spec.specs.Keccak.{¬64, lanes, rotl, column, θ_at, θ, offsets, source, ρπ_at, ρπ, ι}
use Rattle.keccak_spec.specs.Complemented.{ones, complement, between_rounds, before_χ}

-- ---- states, lane by lane

-- each lane is a number of 64 bits
abbrev pub InBits : List ℕ → Type 0
InBits a = (i : ℕ) → i < 25 → slice_index a i < 2 ^ 64

lane_at : (f : ℕ → ℕ) (i : ℕ) → i < 25 → slice_index (lanes f) i ≡ f i
lane_at f i l = get_or-map-range_with_len f 0 25 i i 0 l (zero-add i)

same_lanes : (f g : ℕ → ℕ) → ((i : ℕ) → i < 25 → f i ≡ g i) → lanes f ≡ lanes g
same_lanes f g h = fill_by_all g (lanes f) 25 0 (length-map-range_with_len f 0 25) (λ k l. lane_at f k l ∙ h k l)

by_lanes : (a : List ℕ) → length a ≡ 25 → a ≡ lanes (slice_index a)
by_lanes a n = fill_by_all (slice_index a) a 25 0 n (λ k l. refl)

complement-at : (m a : List ℕ) (i : ℕ) → i < 25 → slice_index (complement m a) i ≡ bit_xor (slice_index m i) (slice_index a i)
unfolding complement
complement-at m a i l = lane_at (λ k. bit_xor (slice_index m k) (slice_index a k)) i l

pub xor_twice : (m x : ℕ) → bit_xor m (bit_xor m x) ≡ x
xor_twice m x = sym (xor_assoc m m x) ∙ ap (λ y. bit_xor y x) (xor_self m)

pub complement_twice : (m a : List ℕ) → length a ≡ 25 → complement m (complement m a) ≡ a
unfolding complement
complement_twice m a n =
    same_lanes (λ i. bit_xor (slice_index m i) (slice_index (complement m a) i)) (slice_index a)
    (λ i l. ap (bit_xor (slice_index m i)) (complement-at m a i l) ∙ xor_twice (slice_index m i) (slice_index a i))
    ∙ sym (by_lanes a n)

-- a complement by `^`, as the masks give it
pub xor_ones : (x : ℕ) → x < 2 ^ 64 → bit_xor ones x ≡ ¬64 x
xor_ones x h = omega (arith, xor_add_and ones x, and_comm ones x, and_mask x 64, mod-eq_of_lt h)

-- ---- θ

xor_pairs : (a b c d : ℕ) → bit_xor (bit_xor a b) (bit_xor c d) ≡ bit_xor (bit_xor a c) (bit_xor b d)
xor_pairs a b c d =
    xor_assoc a b (bit_xor c d)
    ∙ ap (bit_xor a) (sym (xor_assoc b c d) ∙ ap (λ x. bit_xor x d) (xor_comm b c) ∙ xor_assoc c b d)
    ∙ sym (xor_assoc a c (bit_xor b d))

five_pairs : (a b c d e p q r s t : ℕ)
    → bit_xor (bit_xor (bit_xor (bit_xor (bit_xor a p) (bit_xor b q)) (bit_xor c r)) (bit_xor d s)) (bit_xor e t)
    ≡ bit_xor (bit_xor (bit_xor (bit_xor (bit_xor a b) c) d) e) (bit_xor (bit_xor (bit_xor (bit_xor p q) r) s) t)
five_pairs a b c d e p q r s t =
    ap (λ x. bit_xor (bit_xor (bit_xor x (bit_xor c r)) (bit_xor d s)) (bit_xor e t)) (xor_pairs a p b q)
    ∙ ap (λ x. bit_xor (bit_xor x (bit_xor d s)) (bit_xor e t)) (xor_pairs (bit_xor a b) (bit_xor p q) c r)
    ∙ ap (λ x. bit_xor x (bit_xor e t)) (xor_pairs (bit_xor (bit_xor a b) c) (bit_xor (bit_xor p q) r) d s)
    ∙ xor_pairs (bit_xor (bit_xor (bit_xor a b) c) d) (bit_xor (bit_xor (bit_xor p q) r) s) e t

column-complement : (m a : List ℕ) (x : ℕ) → x < 5 → column (complement m a) x ≡ bit_xor (column m x) (column a x)
column-complement m a x l =
    let at : (k : ℕ) → k < 25 → slice_index (complement m a) k ≡ bit_xor (slice_index m k) (slice_index a k) = complement-at m a in
    rw (at x (omega arith), at (x + 5) (omega arith), at (x + 10) (omega arith), at (x + 15) (omega arith), at (x + 20) (omega arith))
    (five_pairs (slice_index m x) (slice_index m (x + 5)) (slice_index m (x + 10)) (slice_index m (x + 15)) (slice_index m (x + 20))
    (slice_index a x) (slice_index a (x + 5)) (slice_index a (x + 10)) (slice_index a (x + 15)) (slice_index a (x + 20)))

column-lt : (a : List ℕ) (x : ℕ) → InBits a → x < 5 → column a x < 2 ^ 64
column-lt a x h l =
    xor_lt 64 _ _ (xor_lt 64 _ _ (xor_lt 64 _ _ (xor_lt 64 _ _ (h x (omega arith)) (h (x + 5) (omega arith))) (h (x + 10) (omega arith))) (h (x + 15) (omega arith)))
    (h (x + 20) (omega arith))

-- a rotation by j, whose k high bits go to the low end
abbrev turned : ℕ → ℕ → ℕ → ℕ
turned j k x = (x % 2 ^ k) * 2 ^ j + x / 2 ^ k

turned_is : (j k x : ℕ) → j + k ≡ 64 → x < 2 ^ 64 → bit_or ((x * 2 ^ j) % 2 ^ 64) (x / 2 ^ k) ≡ turned j k x
turned_is j k x s b =
    let w : k + j ≡ 64 = omega arith in
    let low : (x * 2 ^ j) % 2 ^ (k + j) ≡ (x % 2 ^ k) * 2 ^ j =
    mod-pow-add (x * 2 ^ j) k j ∙ ap₂ (λ p q. (p % 2 ^ k) * 2 ^ j + q) (shl-shr x j) (mul-mod_left x (2 ^ j)) ∙ omega arith in
    let fits : x < 2 ^ (j + k) = subst (λ n. x < 2 ^ n) (sym s) b in
    ap (λ n. bit_or ((x * 2 ^ j) % 2 ^ n) (x / 2 ^ k)) (sym w) ∙ ap (λ p. bit_or p (x / 2 ^ k)) low ∙ or_shifted (x % 2 ^ k) j (x / 2 ^ k) (shr_below x j k fits)

turned-xor : (j k x y : ℕ) → j + k ≡ 64 → x < 2 ^ 64 → y < 2 ^ 64 → turned j k (bit_xor x y) ≡ bit_xor (turned j k x) (turned j k y)
turned-xor j k x y s b d =
    let high : (z : ℕ) → z < 2 ^ 64 → z / 2 ^ k < 2 ^ j = λ z h. shr_below z j k (subst (λ n. z < 2 ^ n) (sym s) h) in
    ap₂ (λ p q. p * 2 ^ j + q) (xor_mod x y k) (xor_shr x y k) ∙ sym (xor_block j (x % 2 ^ k) (y % 2 ^ k) (x / 2 ^ k) (y / 2 ^ k) (high x b) (high y d))

rotl-zero : (k x : ℕ) → k % 64 ≡ 0 → x < 2 ^ 64 → rotl k x ≡ x
rotl-zero k x z b =
    ap (λ j. bit_or ((x * 2 ^ j) % 2 ^ 64) (x / 2 ^ ((64 - j) % 64))) z
    ∙ ap₂ bit_or (ap (λ p. p % 2 ^ 64) (mul-one x) ∙ mod-eq_of_lt b) (div-one x) ∙ or_self x

rotl-turned : (k x : ℕ) → 0 < k % 64 → x < 2 ^ 64 → rotl k x ≡ turned (k % 64) (64 - k % 64) x
rotl-turned k x p b =
    let r : (64 - k % 64) % 64 ≡ 64 - k % 64 = omega arith in
    ap (λ n. bit_or ((x * 2 ^ (k % 64)) % 2 ^ 64) (x / 2 ^ n)) r ∙ turned_is (k % 64) (64 - k % 64) x (omega arith) b

rotl-xor : (k x y : ℕ) → x < 2 ^ 64 → y < 2 ^ 64 → rotl k (bit_xor x y) ≡ bit_xor (rotl k x) (rotl k y)
rotl-xor k x y b d =
    let both : bit_xor x y < 2 ^ 64 = xor_lt 64 x y b d in
    elim (cases_lt 0 (k % 64)) [
      | inl p ↦ rotl-turned k (bit_xor x y) p both ∙ turned-xor (k % 64) (64 - k % 64) x y (omega arith) b d ∙ sym (ap₂ bit_xor (rotl-turned k x p b) (rotl-turned k y p d))
      | inr p ↦ let z : k % 64 ≡ 0 = omega arith in rotl-zero k (bit_xor x y) z both ∙ sym (ap₂ bit_xor (rotl-zero k x z b) (rotl-zero k y z d))
    ]

rotl-lt : (k x : ℕ) → x < 2 ^ 64 → rotl k x < 2 ^ 64
rotl-lt k x b =
    or_lt 64 ((x * 2 ^ (k % 64)) % 2 ^ 64) (x / 2 ^ ((64 - k % 64) % 64)) (mod_below (x * 2 ^ (k % 64)) (2 ^ 64) (pow_pos 64)) (lt_of_le_of_lt (shr_le x ((64 - k % 64) % 64)) b)

-- what is complemented lane by lane
complement-lanes : (f g h : ℕ → ℕ) → ((i : ℕ) → i < 25 → h i ≡ bit_xor (f i) (g i)) → lanes h ≡ complement (lanes f) (lanes g)
unfolding complement
complement-lanes f g h e = same_lanes h (λ i. bit_xor (slice_index (lanes f) i) (slice_index (lanes g) i)) (λ i l. e i l ∙ sym (ap₂ bit_xor (lane_at f i l) (lane_at g i l)))

θ-complement : (m a : List ℕ) → InBits m → InBits a → θ (complement m a) ≡ complement (θ m) (θ a)
unfolding θ
θ-complement m a hm ha = complement-lanes (θ_at m) (θ_at a) (θ_at (complement m a)) at
  where
    at : (i : ℕ) → i < 25 → θ_at (complement m a) i ≡ bit_xor (θ_at m i) (θ_at a i)
    at i l =
        let x = (i + 4) % 5 in
        let y = (i + 1) % 5 in
        let in_x : x < 5 = omega arith in
        let in_y : y < 5 = omega arith in
        let turned = ap (rotl 1) (column-complement m a y in_y) ∙ rotl-xor 1 (column m y) (column a y) (column-lt m y hm in_y) (column-lt a y ha in_y) in
        ap₂ bit_xor (complement-at m a i l) (ap₂ bit_xor (column-complement m a x in_x) turned ∙ xor_pairs (column m x) (column a x) (rotl 1 (column m y)) (rotl 1 (column a y)))
        ∙ xor_pairs (slice_index m i) (slice_index a i) (bit_xor (column m x) (rotl 1 (column m y))) (bit_xor (column a x) (rotl 1 (column a y)))

θ-in_bits : (a : List ℕ) → InBits a → InBits (θ a)
unfolding θ
θ-in_bits a h i l =
    let x = (i + 4) % 5 in
    let y = (i + 1) % 5 in
    let at : θ_at a i < 2 ^ 64 = xor_lt 64 (slice_index a i) (bit_xor (column a x) (rotl 1 (column a y))) (h i l)
    (xor_lt 64 (column a x) (rotl 1 (column a y)) (column-lt a x h (omega arith)) (rotl-lt 1 (column a y) (column-lt a y h (omega arith)))) in
    subst (λ n. n < 2 ^ 64) (sym (lane_at (θ_at a) i l)) at

ρπ-complement : (m a : List ℕ) → InBits m → InBits a → ρπ (complement m a) ≡ complement (ρπ m) (ρπ a)
unfolding ρπ
ρπ-complement m a hm ha = complement-lanes (ρπ_at m) (ρπ_at a) (ρπ_at (complement m a)) at
  where
    at : (i : ℕ) → i < 25 → ρπ_at (complement m a) i ≡ bit_xor (ρπ_at m i) (ρπ_at a i)
    at i l =
        let s = source i in
        let k = slice_index offsets s in
        let within : s < 25 = omega arith in
        ap (rotl k) (complement-at m a s within) ∙ rotl-xor k (slice_index m s) (slice_index a s) (hm s within) (ha s within)

-- ---- the six lanes

between-in_bits : InBits between_rounds
unfolding between_rounds
between-in_bits i l =
    ltb-true (slice_index between_rounds i) (2 ^ 64)
    (All-get_or (λ x. nat_lt x (2 ^ 64) ≡ true) between_rounds i 0 l (AllPass-from_list_all (λ x. nat_lt x (2 ^ 64)) between_rounds refl))

-- a state with lane i complemented by `!`
abbrev pub negated : List ℕ → ℕ → List ℕ
negated a i = slice_set a i (¬64 (slice_index a i))

abbrev pub six_negated : List ℕ → List ℕ
six_negated a = negated (negated (negated (negated (negated (negated a 1) 2) 8) 12) 17) 20

six_negated-lanes : (f : ℕ → ℕ) → ((i : ℕ) → i < 25 → f i < 2 ^ 64) → six_negated (lanes f) ≡ complement between_rounds (lanes f)
unfolding complement between_rounds
six_negated-lanes f h = rw (at 1 (omega arith), at 2 (omega arith), at 8 (omega arith), at 12 (omega arith), at 17 (omega arith), at 20 (omega arith))
  where
    at : (i : ℕ) → i < 25 → bit_xor ones (f i) ≡ ¬64 (f i)
    at i l = xor_ones (f i) (h i l)

pub six_negated-is : (a : List ℕ) → length a ≡ 25 → InBits a → six_negated a ≡ complement between_rounds a
six_negated-is a n h = subst (λ b. six_negated b ≡ complement between_rounds b) (sym (by_lanes a n)) (six_negated-lanes (slice_index a) h)

-- θ, ρ and π take the complemented lanes to those before χ
pub to_χ : (a : List ℕ) → InBits a → ρπ (θ (complement between_rounds a)) ≡ complement before_χ (ρπ (θ a))
unfolding before_χ
to_χ a h =
    ap ρπ (θ-complement between_rounds a between-in_bits h)
    ∙ ρπ-complement (θ between_rounds) (θ a) (θ-in_bits between_rounds between-in_bits) (θ-in_bits a h)

-- lane 0 is none of the six, so ι may come before or after
pub complement-ι : (rc : ℕ) (a : List ℕ) → length a ≡ 25 → complement between_rounds (ι rc a) ≡ ι rc (complement between_rounds a)
unfolding complement between_rounds
complement-ι rc a n = subst (λ b. complement between_rounds (ι rc b) ≡ ι rc (complement between_rounds b)) (sym (by_lanes a n)) refl
