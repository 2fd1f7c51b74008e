-- Proof only, not to be read to believe a contract: packing loses nothing, and packed words are codes.
use Rattle.std.specs.Prelude.{◌≡◌, ℕ, suc, ◌+◌, ◌-◌, ◌*◌, ◌/◌, ◌%◌, ◌^◌, ◌<◌, ◌≤◌, min, List, [], ◌∷◌, length, drop, slice_index, slice_index_or, refl}
use Rattle.std.proofs.Common.{sym, ap, ◌∙◌, mul-zero, mul-add, mul_assoc, mul_comm, mul-one, mod-lt, lt_of_mul-lt-mul_right, pow-add, lit<}
use Rattle.std.proofs.Math.Logic.{inl, inr}
use Rattle.std.proofs.Math.Nat.{add-mul, pow-le-pow_right, pow-zero, pow-succ'}
use native.Mathlib.Omega.{arith}
use Rattle.std.proofs.lemmas.List.{length-take, length-drop, get_or-take, get_or-drop, ext_get_or}
use Rattle.std.proofs.lemmas.List.FromFn.{length-map-range_with_len, get_or-map-range_with_len}
use Rattle.std.proofs.lemmas.Nat.{mul-add-lt, div-mul-add, mod-mul-add, div_below, div-add-mod', mul-le}
use Rattle.std.proofs.lemmas.Bool.{cases_lt}
use Rattle.permutation.specs.Rows.{HasOnlyCodes}
use Rattle.code_bits.specs.CodeBits.{code_bits}
use Rattle.code_bits.specs.CodeBitsProofs.{code_bits-least}
use Rattle.packing.specs.Powers.{greatest_power, limbs}
use Rattle.packing.specs.PowersProofs.{greatest_is_greatest, power_few}
use Rattle.packing.specs.Packing.{weighted_sum, pack, group, groups, packed_words}
use Rattle.refusal.specs.declared.limits.TheConstants.{GREATEST_SAMPLED_ORDER}

weighed_more : (b j : ℕ) (vs : List ℕ) → weighted_sum b (j + 1) vs ≡ weighted_sum b j vs * 2 ^ b
weighed_more b j [] = omega arith
weighed_more b j (v ∷ vs) =
    let p : 2 ^ (b * (j + 1)) ≡ 2 ^ (b * j) * 2 ^ b = ap (λ n. 2 ^ n) (mul-add b j 1 ∙ ap (λ n. b * j + n) (mul-one b)) ∙ pow-add 2 (b * j) b in
    omega (arith, ap (λ n. v * n) p, mul_assoc v (2 ^ (b * j)) (2 ^ b), weighed_more b (j + 1) vs, add-mul (v * 2 ^ (b * j)) (weighted_sum b (j + 1) vs) (2 ^ b))

-- a scalar in front
pub pack_cons : (b v : ℕ) (vs : List ℕ) → pack b (v ∷ vs) ≡ pack b vs * 2 ^ b + v
unfolding pack
pack_cons b v vs =
    let one : 2 ^ (b * 0) ≡ 1 = ap (λ n. 2 ^ n) (mul-zero b) ∙ pow-zero 2 in
    let first : v * 2 ^ (b * 0) ≡ v = ap (λ n. v * n) one ∙ mul-one v in
    omega (arith, first, weighed_more b 0 vs)

pub pack-none : (b : ℕ) → pack b [] ≡ 0
unfolding pack
pack-none b = refl

pub pack_one : (b v : ℕ) → pack b (v ∷ []) ≡ v
pack_one b v = pack_cons b v [] ∙ omega (arith, ap (λ n. n * 2 ^ b) (pack-none b))

head_code : (order v : ℕ) (vs : List ℕ) → HasOnlyCodes order (v ∷ vs) → v < order
head_code order v vs h = h 0 (omega arith)

tail_codes : (order v : ℕ) (vs : List ℕ) → HasOnlyCodes order (v ∷ vs) → HasOnlyCodes order vs
tail_codes order v vs h k lt = h (suc k) (omega arith)

pub pack_lt : (b : ℕ) (vs : List ℕ) → HasOnlyCodes (2 ^ b) vs → pack b vs < (2 ^ b) ^ length vs
pack_lt b [] h = rw (pack-none b, pow-zero (2 ^ b)) (lit< tt)
pack_lt b (v ∷ vs) h =
    rw (pack_cons b v vs, pow-succ' (2 ^ b) (length vs))
    (mul-add-lt (pack b vs) (2 ^ b) v ((2 ^ b) ^ length vs) (pack_lt b vs (tail_codes _ v vs h)) (head_code _ v vs h))

pub pack-injective : (b : ℕ) (xs ys : List ℕ) → length xs ≡ length ys → HasOnlyCodes (2 ^ b) xs → HasOnlyCodes (2 ^ b) ys → pack b xs ≡ pack b ys → xs ≡ ys
pack-injective b [] [] l hx hy e = refl
pack-injective b [] (y ∷ ys) l hx hy e = absurd (omega arith)
pack-injective b (x ∷ xs) [] l hx hy e = absurd (omega arith)
pack-injective b (x ∷ xs) (y ∷ ys) l hx hy e =
    let w = 2 ^ b in
    let e' : pack b xs * w + x ≡ pack b ys * w + y = sym (pack_cons b x xs) ∙ e ∙ pack_cons b y ys in
    let hd : x ≡ y = sym (mod-mul-add (pack b xs) w x (head_code _ x xs hx)) ∙ ap (λ n. n % w) e' ∙ mod-mul-add (pack b ys) w y (head_code _ y ys hy) in
    let tl : pack b xs ≡ pack b ys = sym (div-mul-add (pack b xs) w x (head_code _ x xs hx)) ∙ ap (λ n. n / w) e' ∙ div-mul-add (pack b ys) w y (head_code _ y ys hy) in
    let rest : xs ≡ ys = pack-injective b xs ys (omega arith) (tail_codes _ x xs hx) (tail_codes _ y ys hy) tl in
    rw (hd, rest)

module _ (n : ℕ) (some : 1 ≤ n) where
  pub group-length : (vs : List ℕ) (i : ℕ) → length (group n vs i) ≡ min n (length vs - i * n)
  group-length vs i = length-take n (drop (i * n) vs) ∙ ap (min n) (length-drop (i * n) vs)

  group_at : (vs : List ℕ) (i j : ℕ) → j < n → slice_index (group n vs i) j ≡ slice_index vs (i * n + j)
  group_at vs i j h = get_or-take n (drop (i * n) vs) j 0 h ∙ get_or-drop (i * n) vs j 0

  pub group-codes : (order : ℕ) (vs : List ℕ) (i : ℕ) → HasOnlyCodes order vs → HasOnlyCodes order (group n vs i)
  group-codes order vs i h k lt =
      let l = group-length vs i in
      rw (group_at vs i k (omega arith)) (h (i * n + k) (omega arith))

  -- the groups cover the list, and none is empty
  cover : (m : ℕ) → m ≤ (m + (n - 1)) / n * n
  cover m = omega (arith, div-add-mod' (m + (n - 1)) n, mod-lt (m + (n - 1)) some)

  pub some-group : (vs : List ℕ) (j : ℕ) → j < length vs → j / n < groups n vs
  some-group vs j h =
      let c = cover (length vs) in
      let q : j / n * n < groups n vs * n = omega (arith, div-add-mod' j n, c) in
      lt_of_mul-lt-mul_right n q

  pub group_inside : (vs : List ℕ) (i : ℕ) → i < groups n vs → i * n < length vs
  group_inside vs i h =
      let m : (i + 1) * n ≤ groups n vs * n = mul-le (i + 1) n (groups n vs) n (omega arith) (omega arith) in
      let e : (i + 1) * n ≡ i * n + n = omega (arith, add-mul i 1 n) in
      omega (arith, m, e, div-add-mod' (length vs + (n - 1)) n)

  pub groups-few : (rate : ℕ) (vs : List ℕ) → length vs ≤ n * rate → groups n vs ≤ rate
  groups-few rate vs h =
      let m : (rate + 1) * n ≡ n * rate + n = omega (arith, add-mul rate 1 n, mul_comm rate n) in
      let l : (length vs + (n - 1)) / n < rate + 1 = div_below (length vs + (n - 1)) n (rate + 1) (omega arith) (omega (arith, m)) in
      omega arith

  pub packed_words-length : (b : ℕ) (vs : List ℕ) → length (packed_words b n vs) ≡ groups n vs
  unfolding packed_words
  packed_words-length b vs = length-map-range_with_len (λ i. pack b (group n vs i)) 0 (groups n vs)

  pub packed_at : (b : ℕ) (vs : List ℕ) (i : ℕ) → i < groups n vs → slice_index (packed_words b n vs) i ≡ pack b (group n vs i)
  unfolding packed_words
  packed_at b vs i h = get_or-map-range_with_len (λ i. pack b (group n vs i)) 0 (groups n vs) i i 0 h (omega arith)

  -- equally many scalars that pack to the same words are the same
  pub packed_words-injective : (b : ℕ) (xs ys : List ℕ) → length xs ≡ length ys → HasOnlyCodes (2 ^ b) xs → HasOnlyCodes (2 ^ b) ys → packed_words b n xs ≡ packed_words b n ys → xs ≡ ys
  packed_words-injective b xs ys l hx hy e =
      ext_get_or 0 xs ys l (λ j h.
      let i = j / n in
      let in-x = some-group xs j h in
      let in-y = some-group ys j (omega arith) in
      let words : pack b (group n xs i) ≡ pack b (group n ys i) = sym (packed_at b xs i in-x) ∙ ap (λ ws. slice_index ws i) e ∙ packed_at b ys i in-y in
      let lens : length (group n xs i) ≡ length (group n ys i) = group-length xs i ∙ ap (λ m. min n (m - i * n)) l ∙ sym (group-length ys i) in
      let same : group n xs i ≡ group n ys i = pack-injective b _ _ lens (group-codes _ xs i hx) (group-codes _ ys i hy) words in
      let r : j % n < n = mod-lt j some in
      let back : i * n + j % n ≡ j = div-add-mod' j n in
      let gx : slice_index_or (group n xs i) (j % n) 0 ≡ slice_index_or xs j 0 = group_at xs i (j % n) r ∙ ap (λ m. slice_index xs m) back in
      let gy : slice_index_or (group n ys i) (j % n) 0 ≡ slice_index_or ys j 0 = group_at ys i (j % n) r ∙ ap (λ m. slice_index ys m) back in
      sym gx ∙ ap (λ zs. slice_index zs (j % n)) same ∙ gy)

-- what is packed is a word: a group of at most limbs scalars is below the sponge order
module _ (sampled order : ℕ) (low : 2 ≤ sampled) (small : sampled ≤ GREATEST_SAMPLED_ORDER) (less : sampled < order) (high : order < 2 ^ 64) where
  pub limbs-some : 1 ≤ limbs sampled order
  unfolding limbs
  limbs-some = omega arith

  pub scalar_fits : (vs : List ℕ) → HasOnlyCodes sampled vs → HasOnlyCodes (2 ^ code_bits sampled) vs
  scalar_fits vs h k lt = omega (arith, h k lt, (code_bits-least sampled small).enough)

  radix_two : 2 ≤ 2 ^ code_bits sampled
  radix_two = omega (arith, (code_bits-least sampled small).enough)

  pub pack-word : (vs : List ℕ) → length vs ≤ limbs sampled order → HasOnlyCodes sampled vs → pack (code_bits sampled) vs < order
  unfolding limbs
  pack-word vs few h =
      elim (cases_lt (length vs) 2) [
        | inl l ↦ short vs l h
        | inr g ↦ (let b = code_bits sampled in
            let gp = greatest_is_greatest (2 ^ b) order radix_two (omega arith) high in
            let up : (2 ^ b) ^ length vs ≤ (2 ^ b) ^ greatest_power (2 ^ b) order = pow-le-pow_right {n = 2 ^ b} (omega (arith, radix_two)) (omega arith) in
            omega (arith, up, gp.fits, pack_lt b vs (scalar_fits vs h)))
      ]
    where
      short : (us : List ℕ) → length us < 2 → HasOnlyCodes sampled us → pack (code_bits sampled) us < order
      short [] l k = rw (pack-none (code_bits sampled)) (omega arith)
      short (u ∷ []) l k = rw (pack_one (code_bits sampled) u) (omega (arith, k 0 (lit< tt)))
      short (u ∷ v ∷ us) l k = absurd (omega arith)

  pub limbs-few : limbs sampled order < 64
  unfolding limbs
  limbs-few =
      let b = code_bits sampled in
      let gp = greatest_is_greatest (2 ^ b) order radix_two (omega arith) high in
      omega (arith, power_few (2 ^ b) order (greatest_power (2 ^ b) order) radix_two high gp.fits)

  pub packed_words-codes : (vs : List ℕ) → HasOnlyCodes sampled vs → HasOnlyCodes order (packed_words (code_bits sampled) (limbs sampled order) vs)
  packed_words-codes vs h i lt =
      let n = limbs sampled order in
      let b = code_bits sampled in
      let inside : i < groups n vs = omega (arith, packed_words-length n limbs-some b vs) in
      rw (packed_at n limbs-some b vs i inside)
      (pack-word (group n vs i) (omega (arith, group-length n limbs-some vs i)) (group-codes n limbs-some sampled vs i h))
