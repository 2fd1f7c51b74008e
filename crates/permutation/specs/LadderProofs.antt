-- Proof only, not to be read to believe a contract: a ladder of at most the most rounds is lawful.
use Rattle.std.specs.Prelude.{◌≡◌, ℕ, zero, suc, ◌+◌, ◌%◌, ◌<◌, ◌≤◌, ◌≢◌, List, length, slice_index, slice_index_or, refl}
use Rattle.std.proofs.Common.{sym, ◌∙◌, inl, inr, length-set, mod-lt, mod-eq_of_lt, arith}
use Rattle.std.proofs.Math.Path.{ap}
use Rattle.std.proofs.Math.Nat.{mod_self}
use Rattle.std.proofs.lemmas.List.{get_or-set_same, get_or-set_other, ext_get_or}
use Rattle.std.proofs.lemmas.Bool.{cases_eq, cases_lt}
use Rattle.domain.specs.Arithmetic.{Arithmetic}
use Rattle.permutation.specs.Rows.{HasOnlyCodes, IsRow, IsLawful}
use Rattle.permutation.specs.AddCancelProofs.{add_cancel}
use Rattle.permutation.specs.Ladder.{ladder_step, ladder_steps, ladder_rounds}
use Rattle.refusal.specs.declared.limits.TheConstants.{MOST_ROUNDS}

-- the cell after i lies in the row, and is another
next-below : (w i : ℕ) → 2 ≤ w → i < w → (i + 1) % w < w
next-below w i h l = mod-lt (i + 1) (omega arith)

next-other : (w i : ℕ) → 2 ≤ w → i < w → i ≢ (i + 1) % w
next-other w i h l e =
    elim (cases_lt (i + 1) w) [
      | inl k ↦ (let m : (i + 1) % w ≡ i + 1 = mod-eq_of_lt k in omega arith)
      | inr k ↦ (let q : i + 1 ≡ w = omega arith in let m : (i + 1) % w ≡ 0 = ap (λ n. n % w) q ∙ mod_self w in omega arith)
    ]

pub step_length : {order : ℕ} (d : Arithmetic order) (r i : ℕ) (xs : List ℕ) → length (ladder_step d r i xs) ≡ length xs
unfolding ladder_step
step_length d r i xs = length-set xs _ _

module _ {order : ℕ} (d : Arithmetic order) (r i : ℕ) (tag : r + i + 1 < 256) where
  -- what a step adds to the next cell
  gain : List ℕ → ℕ
  gain xs = d.add (d.stir (slice_index xs i)) (r + i + 1)

  gain_code : (xs : List ℕ) → HasOnlyCodes order xs → i < length xs → gain xs < order
  unfolding gain
  gain_code xs codes l = d.laws.code _ _ (d.stir_code _ (codes i l)) (omega (arith, d.low))

  same_gain : (xs ys : List ℕ) → slice_index xs i ≡ slice_index ys i → gain xs ≡ gain ys
  unfolding gain
  same_gain xs ys e = ap (λ x. d.add (d.stir x) (r + i + 1)) e

  step_at_next : (xs : List ℕ) → 2 ≤ length xs → i < length xs → slice_index (ladder_step d r i xs) ((i + 1) % length xs) ≡ d.add (slice_index xs ((i + 1) % length xs)) (gain xs)
  unfolding ladder_step gain
  step_at_next xs wide l = get_or-set_same xs _ _ 0 (next-below (length xs) i wide l)

  step_elsewhere : (xs : List ℕ) (k : ℕ) → k ≢ (i + 1) % length xs → slice_index (ladder_step d r i xs) k ≡ slice_index xs k
  unfolding ladder_step
  step_elsewhere xs k ne = get_or-set_other xs _ k _ 0 ne

  pub step_codes : (xs : List ℕ) → 2 ≤ length xs → i < length xs → HasOnlyCodes order xs → HasOnlyCodes order (ladder_step d r i xs)
  step_codes xs wide l codes k lt =
      let inside : k < length xs = omega (arith, step_length d r i xs) in
      elim (cases_eq k ((i + 1) % length xs)) [
        | inl e ↦ (let there : slice_index_or (ladder_step d r i xs) k 0 ≡ d.add (slice_index xs k) (gain xs) = rw e (step_at_next xs wide l) in
            rw there (d.laws.code _ _ (codes k inside) (gain_code xs codes l)))
        | inr ne ↦ rw (step_elsewhere xs k ne) (codes k inside)
      ]

  pub step_row : (xs : List ℕ) → i < length xs → IsRow order xs → IsRow order (ladder_step d r i xs)
  step_row xs l row = record {
    wide = omega (arith, step_length d r i xs, row.wide);
    bounded = omega (arith, step_length d r i xs, row.bounded);
    codes = step_codes xs row.wide l row.codes;
  }

  pub step_injective : (xs ys : List ℕ) → i < length xs → length xs ≡ length ys → IsRow order xs → IsRow order ys → ladder_step d r i xs ≡ ladder_step d r i ys → xs ≡ ys
  step_injective xs ys l same rx ry e =
      let ly : i < length ys = omega arith in
      let n = (i + 1) % length xs in
      let ny : (i + 1) % length xs ≡ (i + 1) % length ys = ap (λ w. (i + 1) % w) same in
      let elsewhere : (k : ℕ) → k ≢ n → slice_index xs k ≡ slice_index_or ys k 0 =
      λ k ne. sym (step_elsewhere xs k ne) ∙ ap (λ zs. slice_index zs k) e ∙ step_elsewhere ys k (λ q. ne (q ∙ sym ny)) in
      let gains : gain xs ≡ gain ys = same_gain xs ys (elsewhere i (next-other (length xs) i rx.wide l)) in
      let inside : n < length xs = next-below (length xs) i rx.wide l in
      let sums : d.add (slice_index xs n) (gain xs) ≡ d.add (slice_index ys n) (gain xs) =
      sym (step_at_next xs rx.wide l) ∙ ap (λ zs. slice_index zs n) e
      ∙ (let m = step_at_next ys ry.wide ly in rw ny (m ∙ ap (d.add _) (sym gains))) in
      let here : slice_index_or xs n 0 ≡ slice_index_or ys n 0 =
      add_cancel d _ _ (gain xs) (rx.codes n inside) (ry.codes n (omega arith)) (gain_code xs rx.codes l) sums in
      ext_get_or 0 xs ys same (λ k _. elim (cases_eq k n) [ inl q ↦ rw q here | inr ne ↦ elsewhere k ne ])

-- n steps of round r, on rows of one width
module _ {order : ℕ} (d : Arithmetic order) (r : ℕ) (few : r < MOST_ROUNDS) where
  pub steps_length : (n : ℕ) (xs : List ℕ) → length (ladder_steps d r n xs) ≡ length xs
  steps_length zero xs = refl
  steps_length (suc n) xs = step_length d r n (ladder_steps d r n xs) ∙ steps_length n xs

  pub steps_row : (n : ℕ) (xs : List ℕ) → n ≤ length xs → IsRow order xs → IsRow order (ladder_steps d r n xs)
  steps_row zero xs _ row = row
  steps_row (suc n) xs le row =
      step_row d r n (omega (arith, row.bounded)) (ladder_steps d r n xs) (omega (arith, steps_length n xs)) (steps_row n xs (omega arith) row)

  pub steps_injective : (n : ℕ) (xs ys : List ℕ) → n ≤ length xs → length xs ≡ length ys → IsRow order xs → IsRow order ys → ladder_steps d r n xs ≡ ladder_steps d r n ys → xs ≡ ys
  steps_injective zero xs ys _ _ _ _ e = e
  steps_injective (suc n) xs ys le same rx ry e =
      let back = step_injective d r n (omega (arith, rx.bounded)) (ladder_steps d r n xs) (ladder_steps d r n ys) (omega (arith, steps_length n xs))
      (steps_length n xs ∙ same ∙ sym (steps_length n ys)) (steps_row n xs (omega arith) rx) (steps_row n ys (omega arith) ry) e in
      steps_injective n xs ys (omega arith) same rx ry back

module _ {order : ℕ} (d : Arithmetic order) where
  pub rounds-row : (n : ℕ) (xs : List ℕ) → n ≤ MOST_ROUNDS → IsRow order xs → (length (ladder_rounds d n xs) ≡ length xs) × IsRow order (ladder_rounds d n xs)
  rounds-row zero xs _ row = (refl, row)
  rounds-row (suc n) xs le row =
      let below = rounds-row n xs (omega arith) row in (
        steps_length d n (omega arith) (length xs) (ladder_rounds d n xs) ∙ below.0,
        steps_row d n (omega arith) (length xs) (ladder_rounds d n xs) (omega (arith, below.0)) below.1,
      )

  pub rounds-injective : (n : ℕ) (xs ys : List ℕ) → n ≤ MOST_ROUNDS → length xs ≡ length ys → IsRow order xs → IsRow order ys → ladder_rounds d n xs ≡ ladder_rounds d n ys → xs ≡ ys
  rounds-injective zero xs ys _ _ _ _ e = e
  rounds-injective (suc n) xs ys le same rx ry e =
      let few : n ≤ MOST_ROUNDS = omega arith in
      let bx = rounds-row n xs few rx in
      let by = rounds-row n ys few ry in
      let e' : ladder_steps d n (length xs) (ladder_rounds d n xs) ≡ ladder_steps d n (length xs) (ladder_rounds d n ys) = e ∙ ap (λ w. ladder_steps d n w (ladder_rounds d n ys)) (sym same) in
      rounds-injective n xs ys few same rx ry
      (steps_injective d n (omega arith) (length xs) (ladder_rounds d n xs) (ladder_rounds d n ys) (omega (arith, bx.0)) (bx.0 ∙ same ∙ sym by.0) bx.1 by.1 e')

  pub ladder_lawful : (n : ℕ) → n ≤ MOST_ROUNDS → IsLawful order (ladder_rounds d n)
  ladder_lawful n few = record {
    keeps_length = λ xs row. (rounds-row n xs few row).0;
    keeps_codes = λ xs row. (rounds-row n xs few row).1.codes;
    injective = λ xs ys rx ry same e. rounds-injective n xs ys few same rx ry e;
  }
