-- Proof only, not to be read to believe a contract: sponges of one make do the same to a row that can be held, and leave one that can be held.
use Rattle.std.specs.Prelude.{◌≡◌, ℕ, ◌+◌, ◌-◌, ◌<◌, ◌≤◌, true, ◌&&◌, List, [], ◌∷◌, ◌++◌, length, drop, take, ◌==◌, nat_le, nat_lt, slice_index, IsTrue, refl}
use Rattle.std.proofs.Common.{ap, ◌∙◌, inl, inr, arith}
use Rattle.std.proofs.lemmas.List.{length-append, get_or_append_left, get_or-append_right}
use Rattle.std.proofs.lemmas.Bool.{and_parts, and_from, leb-true, ltb-true, le-leb, lt-ltb, eqb-true, eq-eqb, cases_lt}
use Rattle.domain.specs.Codes.{all_codes}
use Rattle.permutation.specs.Rows.{HasOnlyCodes, IsRow, IsLawful}
use Rattle.permutation.specs.RowsProofs.{all_codes-codes, codes-all_codes}
use Rattle.sponge.specs.Sponge.{SpongeMake, padded_words, row_with_block, with_rate_as_outputs, block_turn, empty_turn}
use Rattle.sponge.specs.SpongeHeld.{is_shape}
use Rattle.sponge.specs.SameSponge.{SameSponge, is_row_of}
use Rattle.sponge.specs.AbsorbingProofs.{Words, row_with_block-length, row_with_block-row}
use Rattle.refusal.specs.declared.limits.TheConstants.{WIDEST_ROW}

-- one code more is pending
pub below_from : {a b : ℕ} → a ≤ b → (a ≡ b → ⊥) → a < b
below_from {a} {b} le ne = elim (cases_lt a b) [ inl lt ↦ lt | inr ge ↦ absurd (ne (omega (arith, le, ge))) ]

pub codes-append-one : {order : ℕ} (xs : List ℕ) (c : ℕ) → HasOnlyCodes order xs → c < order → HasOnlyCodes order (xs ++ (c ∷ []))
codes-append-one xs c h lt i inside =
    elim (cases_lt i (length xs)) [
      | inl l ↦ rw (get_or_append_left xs (c ∷ []) 0 i l) (h i l)
      | inr g ↦ (let z : i - length xs ≡ 0 = omega (arith, inside, length-append xs (c ∷ [])) in
          rw (get_or-append_right xs (c ∷ []) (length xs) i 0 refl g, z) lt)
    ]

module _ {order : ℕ} (k : SpongeMake order) (row : List ℕ) (ok : IsTrue (is_row_of k row)) where
  shape : is_shape k.width k.rate ≡ true
  shape = (and_parts (is_shape k.width k.rate) _ ok).0

  rest : (length row == k.width && all_codes order row) ≡ true
  rest = (and_parts (is_shape k.width k.rate) _ ok).1

  pub some_rate : 1 ≤ k.rate
  some_rate = leb-true 1 k.rate (and_parts (nat_le 1 k.rate) _ shape).0

  below : nat_lt k.rate k.width && nat_le k.width WIDEST_ROW ≡ true
  below = (and_parts (nat_le 1 k.rate) _ shape).1

  pub rate_below : k.rate < k.width
  rate_below = ltb-true k.rate k.width (and_parts (nat_lt k.rate k.width) _ below).0

  pub width_few : k.width ≤ WIDEST_ROW
  width_few = leb-true k.width WIDEST_ROW (and_parts (nat_lt k.rate k.width) _ below).1

  pub row-length : length row ≡ k.width
  row-length = eqb-true (length row) k.width (and_parts (length row == k.width) _ rest).0

  pub row-codes : HasOnlyCodes order row
  row-codes = all_codes-codes order row (and_parts (length row == k.width) _ rest).1

  pub is_row : IsRow order row
  is_row = record {
    wide = omega (arith, some_rate, rate_below, row-length);
    bounded = omega (arith, width_few, row-length);
    codes = row-codes;
  }

  pub inside : k.rate < length row
  inside = omega (arith, rate_below, row-length)

  -- another row of as many codes
  pub row_of : (other : List ℕ) → length other ≡ length row → HasOnlyCodes order other → is_row_of k other ≡ true
  row_of other same codes =
      and_from (is_shape k.width k.rate) _ shape
      (and_from (length other == k.width) (all_codes order other) (eq-eqb (length other) k.width (same ∙ row-length)) (codes-all_codes order other codes))

  module _ (lawful : IsLawful order k.image) where
    pub empty_turn-row : is_row_of k (empty_turn k row).row ≡ true
    empty_turn-row = row_of (k.image row) (lawful.keeps_length row is_row) (lawful.keeps_codes row is_row)

    pub block_turn-row : (words : List ℕ) (tag : ℕ) → Words order k.rate words → tag < order → is_row_of k (block_turn k row words tag).row ≡ true
    block_turn-row words tag w few =
        let written = row_with_block-row k row is_row inside words tag w few in
        row_of (k.image (row_with_block k row words tag)) (lawful.keeps_length _ written ∙ row_with_block-length k row is_row inside words tag w.few) (lawful.keeps_codes _ written)

-- a sponge in memory holds such a row
module _ {order : ℕ} (k : SpongeMake order) (row : List ℕ) where
  pub held_row : 1 ≤ k.rate → k.rate < k.width → length row ≡ k.width → HasOnlyCodes order row → k.width ≤ WIDEST_ROW → is_row_of k row ≡ true
  held_row some wide long codes few =
      and_from (is_shape k.width k.rate) _
      (and_from (nat_le 1 k.rate) _ (le-leb 1 k.rate some) (and_from (nat_lt k.rate k.width) _ (lt-ltb k.rate k.width wide) (le-leb k.width WIDEST_ROW few)))
      (and_from (length row == k.width) (all_codes order row) (eq-eqb (length row) k.width long) (codes-all_codes order row codes))

module _ {order : ℕ} (k l : SpongeMake order) (same : SameSponge k l) (lawful : IsLawful order k.image) (row : List ℕ) (ok : IsTrue (is_row_of k row)) where
  rates : (r : List ℕ) → with_rate_as_outputs k r ≡ with_rate_as_outputs l r
  rates r = ap (λ n. record { row = r; outputs = take n r }) same.rate

  pub empty_turn-same : empty_turn k row ≡ empty_turn l row
  empty_turn-same = ap (with_rate_as_outputs k) (same.images row (is_row k row ok)) ∙ rates (l.image row)

  written-same : (words : List ℕ) (tag : ℕ) → tag < order → row_with_block k row words tag ≡ row_with_block l row words tag
  unfolding row_with_block
  written-same words tag few =
      let sum = same.arithmetic.add (slice_index row k.rate) tag (row-codes k row ok k.rate (inside k row ok)) few in
      ap (λ s. padded_words words k.rate ++ (s ∷ drop (k.rate + 1) row)) sum
      ∙ ap (λ n. padded_words words n ++ (l.arithmetic.add (slice_index row n) tag ∷ drop (n + 1) row)) same.rate

  pub block_turn-same : (words : List ℕ) (tag : ℕ) → Words order k.rate words → tag < order → block_turn k row words tag ≡ block_turn l row words tag
  block_turn-same words tag w few =
      let written = row_with_block-row k row (is_row k row ok) (inside k row ok) words tag w few in
      ap (with_rate_as_outputs k) (same.images _ written ∙ ap l.image (written-same words tag few)) ∙ rates (l.image (row_with_block l row words tag))
