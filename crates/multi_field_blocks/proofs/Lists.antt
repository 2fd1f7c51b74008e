-- How long lists are, and parts of them.
use Rattle.std.proofs.Common.{◌≡◌, ℕ, zero, suc, ◌*◌, ◌^◌, ◌<◌, ◌≤◌, List, [], ◌∷◌, length, refl, ap, ◌∙◌, inl, inr, pow-suc, arith}
use native.Mathlib.Nat.{pow-le-pow_left, pow-le-pow_right, pow-zero}
use Rattle.std.proofs.Math.Nat.{suc-mul}
use Rattle.std.proofs.lemmas.List.{length-append}
use Rattle.std.proofs.lemmas.Bool.{cases_lt}
use Rattle.packing.specs.Powers.{digits, IsGreatestPower}
use Rattle.packing.specs.PowersProofs.{greatest_is_greatest}
use Rattle.packing.specs.Packing.{digits_of, digits_of_all}

pub digits_of-length : (base k w : ℕ) → length (digits_of base k w) ≡ k
digits_of-length base zero w = refl
digits_of-length base (suc k) w = ap suc (digits_of-length base k _)

pub digits_of_all-length : (base k : ℕ) (ws : List ℕ) → length (digits_of_all base k ws) ≡ length ws * k
digits_of_all-length base k [] = omega arith
digits_of_all-length base k (w ∷ ws) =
    length-append (digits_of base k w) (digits_of_all base k ws) ∙ omega (arith, digits_of-length base k w, digits_of_all-length base k ws, suc-mul (length ws) k)

-- a word gives 1 to 7 scalars
module _ (sampled order : ℕ) (low : 256 ≤ sampled) (less : sampled < order) (high : order < 2 ^ 64) where
  greatest : IsGreatestPower sampled order (digits sampled order)
  greatest = greatest_is_greatest sampled order (omega arith) (omega arith) high

  pub digits-some : 1 ≤ digits sampled order
  digits-some = let e : sampled ^ 1 ≡ sampled = pow-suc sampled 0 ∙ omega (arith, ap (λ n. n * sampled) (pow-zero sampled)) in greatest.greatest 1 (omega (arith, e))

  pub digits-few : digits sampled order ≤ 7
  digits-few =
      elim (cases_lt (digits sampled order) 8) [
        | inl l ↦ omega arith
        | inr g ↦ (let up : sampled ^ 8 ≤ sampled ^ digits sampled order = pow-le-pow_right {n = sampled} (omega arith) g in
            let wide : 256 ^ 8 ≤ sampled ^ 8 = pow-le-pow_left low 8 in
            absurd (omega (arith, up, wide, greatest.fits)))
      ]
