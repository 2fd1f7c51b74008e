-- One group of scalars, packed from its end, and the groups of a list in turn.
use Rattle.std.proofs.Common.{◌≡◌, ℕ, ◌+◌, ◌-◌, ◌*◌, ◌/◌, ◌^◌, ◌<◌, ◌≤◌, min, List, ◌++◌, length, get_or, take, drop, sym, ap, ◌∙◌, inl, inr, arith}
use Rattle.std.specs.Prelude.{reverse}
use Rattle.std.proofs.Math.Seq.{take-append_seam, drop-append_seam}
use Rattle.std.proofs.Math.Nat.{add-mul}
use Rattle.std.proofs.lemmas.Bool.{cases_lt}
use Rattle.std.proofs.lemmas.Nat.{div-mul-add}
use Rattle.std.proofs.lemmas.List.{length-drop, length-reverse, get_or-drop, get_or-reverse, get_or_default, drop_all, drop-drop, at_drop_more, take_min, drop_min}
use Rattle.permutation.specs.Rows.{HasOnlyCodes}
use Rattle.code_bits.specs.CodeBits.{code_bits}
use Rattle.packing.specs.Powers.{limbs}
use Rattle.packing.specs.Packing.{pack, group, groups}
use Rattle.packing.specs.PackingProofs.{pack_cons, pack-none, pack-word, some-group, group_inside}
use Rattle.refusal.specs.declared.limits.TheConstants.{GREATEST_SAMPLED_ORDER}

codes-drop : (order j : ℕ) (xs : List ℕ) → HasOnlyCodes order xs → HasOnlyCodes order (drop j xs)
codes-drop order j xs h k lt = rw (get_or-drop j xs k 0) (h (j + k) (omega (arith, length-drop j xs)))

-- what the last scalars of a group pack to
abbrev pub end_word : ℕ → List ℕ → ℕ → ℕ
end_word sampled g k = pack (code_bits sampled) (drop (length g - k) g)

module _ (sampled : ℕ) (g : List ℕ) where
  pub end_none : 0 ≡ end_word sampled g 0
  end_none = sym (ap (pack (code_bits sampled)) (drop_all (length g - 0) g (omega arith)) ∙ pack-none (code_bits sampled))

  -- one scalar more, from the end
  pub end_more : (radix k x word : ℕ) → radix ≡ 2 ^ code_bits sampled → (k < length (reverse g)) × (x ≡ get_or (reverse g) k x)
      → word ≡ end_word sampled g k → word * radix + x ≡ end_word sampled g (k + 1)
  end_more radix k x word r t w =
      let b = code_bits sampled in
      let inside : k < length g = omega (arith, t.0, length-reverse g) in
      let j = length g - 1 - k in
      let at : x ≡ get_or g j 0 = t.1 ∙ get_or-reverse g k x inside ∙ get_or_default g j x 0 (omega arith) in
      let next : j + 1 ≡ length g - k = omega arith in
      let last : j ≡ length g - (k + 1) = omega arith in
      ap (λ n. word * n + x) r ∙ ap (λ n. n * 2 ^ b + x) (w ∙ ap (λ n. pack b (drop n g)) (sym next)) ∙ ap (λ n. pack b (drop (j + 1) g) * 2 ^ b + n) at
      ∙ sym (at_drop_more (pack b) g j 0 (omega arith) ∙ pack_cons b (get_or g j 0) (drop (j + 1) g)) ∙ ap (λ n. pack b (drop n g)) last

pub end-code : (sampled order : ℕ) → 2 ≤ sampled → sampled ≤ GREATEST_SAMPLED_ORDER → sampled < order → order < 2 ^ 64
    → (g : List ℕ) → length g ≤ limbs sampled order → HasOnlyCodes sampled g → (k : ℕ) → end_word sampled g k < order
end-code sampled order low small less high g few codes k =
    let j = length g - k in
    pack-word sampled order low small less high (drop j g) (omega (arith, length-drop j g)) (codes-drop sampled j g codes)

-- a list taken apart in pieces of n, from the front: piece i is group i
module _ (n : ℕ) (some : 1 ≤ n) (all : List ℕ) where
  pub piece_more : (i size : ℕ) (left piece rest : List ℕ) → size ≡ n → left ≡ drop (i * n) all
      → (left ≡ piece ++ rest) × (length piece ≡ min size (length left)) × (0 < length left)
      → (piece ≡ group n all i) × (rest ≡ drop ((i + 1) * n) all) × (i < groups n all)
  piece_more i size left piece rest s l p =
      let m : length piece ≡ min n (length left) = p.1 ∙ ap (λ x. min x (length left)) s in
      let first : piece ≡ take n left = sym (take-append_seam piece rest) ∙ ap (take (length piece)) (sym p.0) ∙ ap (λ x. take x left) m ∙ take_min n left in
      let rests : rest ≡ drop n left = sym (drop-append_seam piece rest) ∙ ap (drop (length piece)) (sym p.0) ∙ ap (λ x. drop x left) m ∙ drop_min n left in
      let next : i * n + n ≡ (i + 1) * n = omega (arith, add-mul i 1 n) in
      let here : i * n + 0 < length all = omega (arith, ap length l, length-drop (i * n) all, p.2) in
      let at : (i * n + 0) / n ≡ i = div-mul-add i n 0 some in (
        first ∙ ap (take n) l,
        rests ∙ ap (drop n) l ∙ drop-drop n (i * n) all ∙ ap (λ x. drop x all) next,
        omega (arith, at, some-group n some all (i * n + 0) here),
      )

  pub piece_end : (i : ℕ) (left : List ℕ) → left ≡ drop (i * n) all → length left ≡ 0 → i ≤ groups n all → i ≡ groups n all
  piece_end i left l none few =
      elim (cases_lt i (groups n all)) [
        | inl h ↦ absurd (omega (arith, ap length l, length-drop (i * n) all, group_inside n some all i h))
        | inr h ↦ omega arith
      ]
