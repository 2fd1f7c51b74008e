-- One scalar more at the end of those that are packed: only the last word depends on it.
use Rattle.std.proofs.Common.{◌≡◌, ℕ, suc, ◌+◌, ◌-◌, ◌*◌, ◌/◌, ◌%◌, ◌^◌, ◌<◌, ◌≤◌, List, [], ◌∷◌, ◌++◌, length, get_or, take, drop, sym, ap, ◌∙◌, inl, inr, mod-lt, mul-zero, arith}
use Rattle.std.proofs.Math.Nat.{add-mul}
use Rattle.std.proofs.lemmas.Bool.{cases_lt}
use Rattle.std.proofs.lemmas.Nat.{mul-le, div-mul-add, div-add-mod'}
use Rattle.std.proofs.lemmas.List.{length-append, length-drop, length-set, take_all, take-append-le, drop-append-le, ext_get_or, get_or-set_same, get_or-set_other}
use Rattle.code_bits.specs.CodeBits.{code_bits}
use Rattle.code_bits.specs.CodeBitsProofs.{code_bits-least}
use Rattle.packing.specs.Powers.{greatest_power, limbs}
use Rattle.packing.specs.PowersProofs.{greatest_is_greatest, power_few, pow_mul}
use Rattle.packing.specs.Packing.{weighted_sum, pack, group, groups, packed_words}
use Rattle.packing.specs.PackingProofs.{packed_words-length, packed_at}
use Rattle.sponge.specs.Sponge.{last_output}
use Rattle.prepared_grind.specs.Tests.{with_last}
use Rattle.refusal.specs.declared.limits.TheConstants.{GREATEST_SAMPLED_ORDER}

weighed_end : (b j w : ℕ) (vs : List ℕ) → weighted_sum b j (vs ++ (w ∷ [])) ≡ weighted_sum b j vs + w * 2 ^ (b * (j + length vs))
weighed_end b j w [] = let e : j ≡ j + 0 = omega arith in omega (arith, ap (λ n. w * 2 ^ (b * n)) e)
weighed_end b j w (v ∷ vs) =
    let e : j + 1 + length vs ≡ j + suc (length vs) = omega arith in
    omega (arith, weighed_end b (j + 1) w vs, ap (λ n. w * 2 ^ (b * n)) e)

pack_end : (b w : ℕ) (vs : List ℕ) → pack b (vs ++ (w ∷ [])) ≡ pack b vs + w * 2 ^ (b * length vs)
unfolding pack
pack_end b w vs = weighed_end b 0 w vs ∙ (let e : 0 + length vs ≡ length vs = omega arith in ap (λ n. weighted_sum b 0 vs + w * 2 ^ (b * n)) e)

module _ (b n : ℕ) (some : 1 ≤ n) (xs : List ℕ) where
  -- the word that takes the scalar, its place there, and the words
  abbrev q : ℕ
  q = length xs / n

  abbrev r : ℕ
  r = length xs % n

  abbrev more : ℕ → List ℕ
  more w = packed_words b n (xs ++ (w ∷ []))

  whole : q * n + r ≡ length xs
  whole = div-add-mod' (length xs) n

  place : r < n
  place = mod-lt (length xs) some

  groups_end : (w : ℕ) → groups n (xs ++ (w ∷ [])) ≡ q + 1
  groups_end w =
      let l : length (xs ++ (w ∷ [])) ≡ length xs + 1 = length-append xs (w ∷ []) in
      let e : length (xs ++ (w ∷ [])) + (n - 1) ≡ (q + 1) * n + r = omega (arith, l, whole, add-mul q 1 n) in
      ap (λ m. m / n) e ∙ div-mul-add (q + 1) n r place

  more-length : (w : ℕ) → length (more w) ≡ q + 1
  more-length w = packed_words-length n some b (xs ++ (w ∷ [])) ∙ groups_end w

  group_before : (w i : ℕ) → i < q → group n (xs ++ (w ∷ [])) i ≡ group n xs i
  group_before w i lt =
      let m : (i + 1) * n ≤ q * n = mul-le (i + 1) n q n (omega arith) (omega arith) in
      let inside : i * n + n ≤ length xs = omega (arith, m, add-mul i 1 n, whole) in
      ap (take n) (drop-append-le (i * n) xs (w ∷ []) (omega arith))
      ∙ take-append-le n (drop (i * n) xs) (w ∷ []) (omega (arith, length-drop (i * n) xs))

  rest-length : length (drop (q * n) xs) ≡ r
  rest-length = omega (arith, length-drop (q * n) xs, whole)

  group_end : (w : ℕ) → group n (xs ++ (w ∷ [])) q ≡ drop (q * n) xs ++ (w ∷ [])
  group_end w =
      ap (take n) (drop-append-le (q * n) xs (w ∷ []) (omega (arith, whole)))
      ∙ take_all n (drop (q * n) xs ++ (w ∷ [])) (omega (arith, length-append (drop (q * n) xs) (w ∷ []), rest-length, place))

  word_before : (w i : ℕ) → i < q → get_or (more w) i 0 ≡ pack b (group n xs i)
  word_before w i lt = packed_at n some b (xs ++ (w ∷ [])) i (omega (arith, groups_end w)) ∙ ap (pack b) (group_before w i lt)

  word_end : (w : ℕ) → get_or (more w) q 0 ≡ pack b (drop (q * n) xs) + w * 2 ^ (b * r)
  word_end w =
      packed_at n some b (xs ++ (w ∷ [])) q (omega (arith, groups_end w)) ∙ ap (pack b) (group_end w)
      ∙ pack_end b w (drop (q * n) xs) ∙ ap (λ m. pack b (drop (q * n) xs) + w * 2 ^ (b * m)) rest-length

  pub packed_words-some : (w : ℕ) → 1 ≤ length (packed_words b n (xs ++ (w ∷ [])))
  packed_words-some w = omega (arith, more-length w)

  -- the last word gains the scalar, by its weight in its place
  pub last_word : (w : ℕ) → last_output (packed_words b n (xs ++ (w ∷ []))) ≡ last_output (packed_words b n (xs ++ (0 ∷ []))) + w * 2 ^ (b * (length xs % n))
  last_word w =
      let at : (v : ℕ) → get_or (more v) (length (more v) - 1) 0 ≡ pack b (drop (q * n) xs) + v * 2 ^ (b * r) =
      λ v. (let e : length (more v) - 1 ≡ q = omega (arith, more-length v) in ap (λ i. get_or (more v) i 0) e ∙ word_end v) in
      omega (arith, at w, at 0)

  -- the other words are the same
  pub last_set : (w : ℕ) → with_last (packed_words b n (xs ++ (0 ∷ []))) (last_output (packed_words b n (xs ++ (w ∷ [])))) ≡ packed_words b n (xs ++ (w ∷ []))
  last_set w =
      let c = get_or (more w) (length (more w) - 1) 0 in
      let i = length (more 0) - 1 in
      let at : i ≡ q = omega (arith, more-length 0) in
      let end : length (more w) - 1 ≡ q = omega (arith, more-length w) in
      let same : length (with_last (more 0) c) ≡ length (more w) = length-set (more 0) i c ∙ more-length 0 ∙ sym (more-length w) in
      ext_get_or 0 (with_last (more 0) c) (more w) same
      (λ k lt. elim (cases_lt k q) [
        | inl l ↦ get_or-set_other (more 0) i k c 0 (λ e. omega arith) ∙ word_before 0 k l ∙ sym (word_before w k l)
        | inr g ↦ (let last : k ≡ i = omega (arith, same, more-length w) in
            let there : length (more w) - 1 ≡ k = omega (arith, same, more-length w) in
            ap (λ j. get_or (with_last (more 0) c) j 0) last ∙ get_or-set_same (more 0) i c 0 (omega (arith, more-length 0)) ∙ ap (λ j. get_or (more w) j 0) there)
      ])

-- the bits below a scalar in its word are few
pub weight_few : (sampled order place : ℕ) → 2 ≤ sampled → sampled ≤ GREATEST_SAMPLED_ORDER → sampled < order → order < 2 ^ 64 → place < limbs sampled order → code_bits sampled * place < 64
unfolding limbs
weight_few sampled order place low small less high inside =
    let b = code_bits sampled in
    let n = greatest_power (2 ^ b) order in
    elim (cases_lt place 1) [
      | inl l ↦ (let z : place ≡ 0 = omega arith in omega (arith, ap (λ p. b * p) z, mul-zero b))
      | inr g ↦ (let gp = greatest_is_greatest (2 ^ b) order (omega (arith, (code_bits-least sampled small).enough)) (omega arith) high in
          let fits : 2 ^ (b * n) ≤ order = rw (pow_mul 2 b n) gp.fits in
          let most : b * place ≤ b * n = mul-le b place b n (omega arith) (omega arith) in
          omega (arith, most, power_few 2 order (b * n) (omega arith) high fits))
    ]
