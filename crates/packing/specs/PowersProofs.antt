-- Proof only, not to be read to believe a contract: greatest powers, and limbs.
use Rattle.std.specs.Prelude.{◌≡◌, ℕ, zero, suc, ◌*◌, ◌^◌, ◌<◌, ◌≤◌, max, nat_le}
use Rattle.std.proofs.Common.{sym, ap, ◌∙◌, inl, inr, pow-suc, mul-zero, mul-suc, arith, lit<, pow-add}
use Rattle.std.proofs.Math.Nat.{pow-le-pow_left, pow-le-pow_right, pow-zero}
use Rattle.std.proofs.lemmas.Bool.{cases_lt, cases_eq, cases_Bool, leb-true, leb-false, cond-true, cond-false}
use Rattle.code_bits.specs.CodeBits.{code_bits}
use Rattle.code_bits.specs.CodeBitsProofs.{code_bits-least}
use Rattle.packing.specs.Powers.{IsGreatestPower, greatest_power_to, greatest_power, limbs, IsLimbs}
use Rattle.refusal.specs.declared.limits.TheConstants.{GREATEST_SAMPLED_ORDER}

power_fits : (base order n : ℕ) → 1 ≤ order → base ^ greatest_power_to base order n ≤ order
power_fits base order zero h = rw (pow-zero base) h
power_fits base order (suc n) h =
    elim (cases_Bool (nat_le (base ^ suc n) order)) [
      | inl t ↦ rw (cond-true _ (suc n) (greatest_power_to base order n) t) (leb-true _ _ t)
      | inr f ↦ rw (cond-false _ (suc n) (greatest_power_to base order n) f) (power_fits base order n h)
    ]

power_greatest : (base order n m : ℕ) → m ≤ n → base ^ m ≤ order → m ≤ greatest_power_to base order n
power_greatest base order zero m h k = h
power_greatest base order (suc n) m h k =
    elim (cases_Bool (nat_le (base ^ suc n) order)) [
      | inl t ↦ rw (cond-true _ (suc n) (greatest_power_to base order n) t) h
      | inr f ↦ rw (cond-false _ (suc n) (greatest_power_to base order n) f) (elim (cases_eq m (suc n)) [
        | inl e ↦ (let k' : base ^ suc n ≤ order = rw e at k in absurd (omega (arith, k', leb-false _ _ f)))
        | inr ne ↦ power_greatest base order n m (omega arith) k
      ])
    ]

-- no power above the 63rd fits 64 bits
pub power_few : (base order m : ℕ) → 2 ≤ base → order < 2 ^ 64 → base ^ m ≤ order → m < 64
power_few base order m two small k =
    elim (cases_lt m 64) [
      | inl l ↦ l
      | inr g ↦ (let up : 2 ^ 64 ≤ 2 ^ m = pow-le-pow_right {n = 2} (lit< tt) g in
          let wide : 2 ^ m ≤ base ^ m = pow-le-pow_left two m in absurd (omega (arith, up, wide)))
    ]

pub greatest_is_greatest : (base order : ℕ) → 2 ≤ base → 1 ≤ order → order < 2 ^ 64 → IsGreatestPower base order (greatest_power base order)
unfolding greatest_power
greatest_is_greatest base order two some small = record {
  fits = power_fits base order 64 some;
  greatest = λ m k. power_greatest base order 64 m (omega (arith, power_few base order m two small k)) k;
}

pub greatest_is : (base order n : ℕ) → 2 ≤ base → 1 ≤ order → order < 2 ^ 64 → IsGreatestPower base order n → n ≡ greatest_power base order
greatest_is base order n two some small l =
    let r = greatest_is_greatest base order two some small in
    omega (arith, l.greatest _ r.fits, r.greatest _ l.fits)

pub pow_mul : (a b n : ℕ) → a ^ (b * n) ≡ (a ^ b) ^ n
pow_mul a b zero = ap (λ m. a ^ m) (mul-zero b) ∙ pow-zero a ∙ sym (pow-zero (a ^ b))
pow_mul a b (suc n) = ap (λ m. a ^ m) (mul-suc b n) ∙ pow-add a (b * n) b ∙ ap (λ m. m * a ^ b) (pow_mul a b n) ∙ sym (pow-suc (a ^ b) n)

pub limbs-words : (sampled order : ℕ) → 2 ≤ sampled → sampled ≤ GREATEST_SAMPLED_ORDER → 1 ≤ order → order < 2 ^ 64 → IsLimbs sampled order (limbs sampled order)
unfolding limbs
limbs-words sampled order low small some high =
    let b = code_bits sampled in
    let gp = greatest_is_greatest (2 ^ b) order (omega (arith, (code_bits-least sampled small).enough)) some high in
    let n = greatest_power (2 ^ b) order in
    let into : (m : ℕ) → 2 ^ (b * m) ≤ order → m ≤ n = λ m h. gp.greatest m (rw (pow_mul 2 b m) at h) in
    let out : 1 ≤ n → 2 ^ (b * max 1 n) ≤ order = λ h. (let e : max 1 n ≡ n = omega arith in rw (e, pow_mul 2 b n) gp.fits) in
    record {
      some = omega arith;
      fits = λ m h k. out (omega (arith, into m k));
      alone = λ none. elim (cases_lt n 1) [
        | inl l ↦ omega arith
        | inr g ↦ absurd (none n g (rw (pow_mul 2 b n) gp.fits))
      ];
      greatest = λ m h. omega (arith, into m h);
    }
