-- Proof only, not to be read to believe a contract: what absorbing a block makes of a row.
use Rattle.std.proofs.Common.{◌≡◌, ℕ, suc, ◌+◌, ◌-◌, ◌<◌, ◌≤◌, List, ◌∷◌, ◌++◌, length, get_or, take, drop, set, replicate, sym, refl, ap, ◌∙◌, inl, inr, append_assoc, arith}
use lib.ListN.{length-replicate}
use Rattle.std.proofs.lemmas.List.{length-append, length-drop, get_or_at, take_at, set_at, drop_more, get_or_append_left, get_or-append_right, get_or-replicate, get_or_past, get_or-drop}
use Rattle.std.proofs.lemmas.Bool.{cases_lt, cases_eq}
use Rattle.permutation.specs.Rows.{HasOnlyCodes, IsRow}
use Rattle.sponge.specs.Sponge.{SpongeMake, padded_words, row_with_block}

-- what a block writes: at most RATE words, all codes
pub record Words (order rate : ℕ) (words : List ℕ) : Type 0 where
  pub few : length words ≤ rate
  pub codes : HasOnlyCodes order words

pub padded_words-length : (p : List ℕ) (rate : ℕ) → length p ≤ rate → length (padded_words p rate) ≡ rate
padded_words-length p rate h = omega (arith, length-append p (replicate (rate - length p) 0), length-replicate {A = ℕ} (rate - length p) 0)

-- past the words stands 0
pub padded_at : (p : List ℕ) (rate i : ℕ) → i < rate → get_or (padded_words p rate) i 0 ≡ get_or p i 0
padded_at p rate i h =
    elim (cases_lt i (length p)) [
      | inl l ↦ get_or_append_left p _ 0 i l
      | inr k ↦ get_or-append_right p _ (length p) i 0 refl k ∙ get_or-replicate {A = ℕ} (rate - length p) (i - length p) 0 0 (omega arith) ∙ sym (get_or_past p i 0 k)
    ]

-- the cell after f, written
tag_cell : (rate : ℕ) (row f : List ℕ) (tagged : ℕ) → length f ≡ rate → rate < length row → set (f ++ drop rate row) rate tagged ≡ f ++ (tagged ∷ drop (rate + 1) row)
tag_cell rate row f tagged l inside =
    ap (λ xs. set (f ++ xs) rate tagged) (drop_more row rate 0 inside) ∙ set_at f (get_or row rate 0) (drop (rate + 1) row) tagged rate l

-- the row, after the words were written over the first cells, zeros after them, and the tagged cell at RATE
pub row_with_block_is : {order : ℕ} (k : SpongeMake order) (row words : List ℕ) (tag tagged : ℕ) → length words ≤ k.rate → k.rate < length row
    → tagged ≡ k.arithmetic.add (get_or row k.rate 0) tag
    → set (words ++ (replicate (k.rate - length words) 0 ++ drop k.rate row)) k.rate tagged ≡ row_with_block k row words tag
unfolding row_with_block
row_with_block_is k row words tag tagged few inside t =
    let rate = k.rate in
    rw t (ap (λ xs. set xs rate (k.arithmetic.add (get_or row rate 0) tag)) (sym (append_assoc words (replicate (rate - length words) 0) (drop rate row)))
    ∙ tag_cell rate row (padded_words words rate) _ (padded_words-length words rate few) inside)

module _ {order : ℕ} (k : SpongeMake order) (row : List ℕ) (is_row : IsRow order row) (wide : k.rate < length row) (p : List ℕ) (tag : ℕ) where
  pub row_with_block-length : length p ≤ k.rate → length (row_with_block k row p tag) ≡ length row
  unfolding row_with_block
  row_with_block-length h =
      length-append (padded_words p k.rate) (k.arithmetic.add (get_or row k.rate 0) tag ∷ drop (k.rate + 1) row)
      ∙ omega (arith, padded_words-length p k.rate h, length-drop (k.rate + 1) row)

  pub row_with_block-front : length p ≤ k.rate → take k.rate (row_with_block k row p tag) ≡ padded_words p k.rate
  unfolding row_with_block
  row_with_block-front h = take_at (padded_words p k.rate) _ k.rate (padded_words-length p k.rate h)

  pub row_with_block_tag : length p ≤ k.rate → get_or (row_with_block k row p tag) k.rate 0 ≡ k.arithmetic.add (get_or row k.rate 0) tag
  unfolding row_with_block
  row_with_block_tag h = get_or_at (padded_words p k.rate) _ _ 0 k.rate (padded_words-length p k.rate h)

  row_with_block-past : (i : ℕ) → length p ≤ k.rate → k.rate < i → get_or (row_with_block k row p tag) i 0 ≡ get_or row i 0
  unfolding row_with_block
  row_with_block-past i h l =
      let rate = k.rate in
      let tagged = k.arithmetic.add (get_or row rate 0) tag in
      let rest = drop (rate + 1) row in
      let at : i - rate ≡ suc (i - (rate + 1)) = omega arith in
      let back : rate + 1 + (i - (rate + 1)) ≡ i = omega arith in
      get_or-append_right (padded_words p rate) (tagged ∷ rest) rate i 0 (padded_words-length p rate h) (omega arith)
      ∙ ap (λ n. get_or (tagged ∷ rest) n 0) at
      ∙ get_or-drop (rate + 1) row (i - (rate + 1)) 0 ∙ ap (λ n. get_or row n 0) back

  row_with_block_at : (i : ℕ) → length p ≤ k.rate → i < k.rate → get_or (row_with_block k row p tag) i 0 ≡ get_or p i 0
  unfolding row_with_block
  row_with_block_at i h l = get_or_append_left (padded_words p k.rate) _ 0 i (omega (arith, padded_words-length p k.rate h)) ∙ padded_at p k.rate i l

  row_with_block-codes : Words order k.rate p → tag < order → HasOnlyCodes order (row_with_block k row p tag)
  row_with_block-codes w tagged i lt =
      let d = k.arithmetic in
      elim (cases_lt i k.rate) [
        | inl l ↦ rw (row_with_block_at i w.few l) (elim (cases_lt i (length p)) [
          | inl h ↦ w.codes i h
          | inr h ↦ rw (get_or_past p i 0 h) (omega (arith, d.low))
        ])
        | inr l ↦ elim (cases_eq i k.rate) [
          | inl q ↦ rw (q, row_with_block_tag w.few) (d.laws.code _ _ (is_row.codes k.rate wide) tagged)
          | inr ne ↦ rw (row_with_block-past i w.few (omega arith)) (is_row.codes i (omega (arith, row_with_block-length w.few)))
        ]
      ]

  pub row_with_block-row : Words order k.rate p → tag < order → IsRow order (row_with_block k row p tag)
  row_with_block-row w tagged = record {
    wide = omega (arith, row_with_block-length w.few, is_row.wide);
    bounded = omega (arith, row_with_block-length w.few, is_row.bounded);
    codes = row_with_block-codes w tagged;
  }
