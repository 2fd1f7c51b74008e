-- Codes in lists, and what a buffer holds.
use Rattle.std.proofs.Common.{◌≡◌, ℕ, zero, suc, ◌+◌, ◌-◌, ◌<◌, ◌≤◌, List, [], ◌∷◌, ◌++◌, length, take, drop, set, replicate, sym, refl, ap, ◌∙◌, inl, inr, arith}
use lib.ListN.{length-replicate}
use borrow.Rule.Slice.PartMut.{mid_of, put_mid, mid_len}
use Rattle.std.proofs.Math.Seq.{take-append-add}
use Rattle.std.proofs.lemmas.List.{length-take-le, get_or_append_left, get_or-append_right, get_or-replicate, get_or-drop, length-drop, drop-drop, drop-take, take_at, length-append}
use Rattle.std.proofs.lemmas.Slice.{drop-append-drop}
use Rattle.std.proofs.lemmas.Bool.{cases_lt}
use Rattle.permutation.specs.Rows.{HasOnlyCodes}
use Rattle.buffer.specs.declared.Buffer.{Buffer}
use Rattle.buffer.specs.Items.{items}

pub items-length : {order n : ℕ} (b : Buffer order n) → length (items b) ≡ b.count
items-length b = length-take-le b.count b.cells (omega (arith, b.sized, b.within))

pub take_set_in : (n : ℕ) (l : List ℕ) (i a : ℕ) → take n (set l i a) ≡ set (take n l) i a
take_set_in zero l i a = refl
take_set_in (suc n) [] i a = refl
take_set_in (suc n) (x ∷ xs) zero a = refl
take_set_in (suc n) (x ∷ xs) (suc i) a = ap (λ ys. x ∷ ys) (take_set_in n xs i a)

pub codes-append : (order : ℕ) (xs ys : List ℕ) → HasOnlyCodes order xs → HasOnlyCodes order ys → HasOnlyCodes order (xs ++ ys)
codes-append order xs ys hx hy k lt =
    elim (cases_lt k (length xs)) [
      | inl l ↦ rw (get_or_append_left xs ys 0 k l) (hx k l)
      | inr g ↦ rw (get_or-append_right xs ys (length xs) k 0 refl g) (hy (k - length xs) (omega (arith, length-append xs ys)))
    ]

pub codes-drop : (order n : ℕ) (xs : List ℕ) → HasOnlyCodes order xs → HasOnlyCodes order (drop n xs)
codes-drop order n xs h k lt = rw (get_or-drop n xs k 0) (h (n + k) (omega (arith, length-drop n xs)))

pub codes-zeros : (order n : ℕ) → (0 < n → 0 < order) → HasOnlyCodes order (replicate n 0)
codes-zeros order n p k lt =
    let l : k < n = omega (arith, length-replicate {A = ℕ} n 0) in
    rw (get_or-replicate {A = ℕ} n k 0 0 l) (p (omega arith))

-- after these words were written into the first cells of a buffer, and zeros after them up to `end`
module _ {order n : ℕ} (b : Buffer order n) (words : List ℕ) (end : ℕ) (few : length words ≤ end) (inside : end ≤ b.count) where
  abbrev pub zeros : List ℕ
  zeros = replicate (end - length words) 0

  zeros-length : length zeros ≡ end - length words
  zeros-length = length-replicate {A = ℕ} (end - length words) 0

  -- what all cells are, when `copied` is what the first m hold and `filled` what those up to `end` hold
  pub overwritten_cells : (m : ℕ) (copied filled : List ℕ) → m ≡ length words → copied ≡ words
      → filled ≡ replicate (length (mid_of m (end - m) (copied ++ drop m b.cells))) 0
      → put_mid m (end - m) (copied ++ drop m b.cells) filled ≡ words ++ (zeros ++ drop end b.cells)
  overwritten_cells m copied filled h c f =
      let rest = drop (length words) b.cells in
      let e : length words + (end - length words) ≡ end = omega arith in
      let long : end ≤ length (words ++ rest) = omega (arith, length-append words rest, length-drop (length words) b.cells, b.sized, b.within) in
      let past : drop (end - length words) (drop (length words) (words ++ rest)) ≡ drop end b.cells =
      drop-drop (end - length words) (length words) (words ++ rest) ∙ ap (λ k. drop k (words ++ rest)) e ∙ drop-append-drop (length words) b.cells words end few refl in
      rw (f, c, h) (
      ap (λ k. take (length words) (words ++ rest) ++ (replicate k 0 ++ drop (end - length words) (drop (length words) (words ++ rest)))) (mid_len (length words) end (words ++ rest) long)
      ∙ ap (λ xs. xs ++ (zeros ++ drop (end - length words) (drop (length words) (words ++ rest)))) (take_at words rest (length words) refl)
      ∙ ap (λ xs. words ++ (zeros ++ xs)) past
      )

  -- and the cells that count
  pub overwritten_items : take b.count (words ++ (zeros ++ drop end b.cells)) ≡ words ++ (zeros ++ drop end (items b))
  overwritten_items =
      let r = b.count - end in
      let whole : b.count ≡ length words + (length zeros + r) = omega (arith, zeros-length) in
      let split : b.count ≡ end + r = omega arith in
      ap (λ k. take k (words ++ (zeros ++ drop end b.cells))) whole
      ∙ take-append-add words (zeros ++ drop end b.cells) (length zeros + r)
      ∙ ap (λ xs. words ++ xs) (take-append-add zeros (drop end b.cells) r ∙ ap (λ xs. zeros ++ xs) (sym (ap (λ k. drop end (take k b.cells)) split ∙ drop-take end r b.cells)))

  pub overwritten-length : length (words ++ (zeros ++ drop end b.cells)) ≡ n
  overwritten-length = omega (arith, length-append words (zeros ++ drop end b.cells), length-append zeros (drop end b.cells), length-drop end b.cells, zeros-length, b.sized, b.within)

  pub overwritten-codes : HasOnlyCodes order words → HasOnlyCodes order (words ++ (zeros ++ drop end (items b)))
  overwritten-codes h =
      let positive : 0 < end - length words → 0 < order = λ l. (let first = b.codes 0 (omega (arith, items-length b)) in omega (arith, first)) in
      codes-append order words (zeros ++ drop end (items b)) h
      (codes-append order zeros (drop end (items b)) (codes-zeros order (end - length words) positive) (codes-drop order end (items b) b.codes))
