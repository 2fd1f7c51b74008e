-- Proof only, not to be read to believe a contract: the laws of addition modulo an order, and that the stirs give codes.
use Rattle.std.specs.Prelude.{◌≡◌, ℕ, ◌+◌, ◌-◌, ◌*◌, ◌/◌, ◌%◌, ◌<◌, ◌≤◌}
use Rattle.std.proofs.Common.{sym, ap, ◌∙◌, mod-lt, mod-eq_of_lt, add_comm, add_assoc, mul-le-mul, arith}
use Rattle.std.proofs.Math.Nat.{mod-add-mod, add-mod-mod, mod_self}
use Rattle.domain.specs.Arithmetic.{GroupLaws}
use Rattle.domain.specs.Operations.{sum, square, product_of_halves}

module _ (order : ℕ) (low : 256 ≤ order) where
  positive : 0 < order
  positive = omega arith

  sum-assoc : (a b c : ℕ) → sum order (sum order a b) c ≡ sum order a (sum order b c)
  sum-assoc a b c = mod-add-mod (a + b) order c ∙ ap (λ n. n % order) (add_assoc a b c) ∙ sym (add-mod-mod a (b + c) order)

  sum-neutral : (a : ℕ) → a < order → sum order a 0 ≡ a
  sum-neutral a h = let e : a + 0 ≡ a = omega arith in ap (λ n. n % order) e ∙ mod-eq_of_lt h

  sum-opposite : (a : ℕ) → a < order → (b : ℕ) × (b < order) × (sum order a b ≡ 0)
  sum-opposite a h =
      let e : a + (order - a) ≡ order = omega arith in
      ((order - a) % order, mod-lt (order - a) positive, add-mod-mod a (order - a) order ∙ ap (λ n. n % order) e ∙ mod_self order)

  pub sum-laws : GroupLaws order (sum order)
  sum-laws = record {
    code = λ a b _ _. mod-lt (a + b) positive;
    comm = λ a b _ _. ap (λ n. n % order) (add_comm a b);
    assoc = λ a b c _ _ _. sum-assoc a b c;
    neutral = sum-neutral;
    opposite = sum-opposite;
  }

  pub square-code : (a : ℕ) → a < order → square order a < order
  square-code a _ = mod-lt (a * a) positive

pub product_of_halves-code : (a : ℕ) → a < 18446744069414584321 → product_of_halves a < 18446744069414584321
product_of_halves-code a h =
    let l : a % 4294967296 ≤ 4294967295 = omega arith in
    let u : a / 4294967296 ≤ 4294967295 = omega arith in
    let m : (a % 4294967296) * (a / 4294967296) ≤ 4294967295 * 4294967295 = mul-le-mul l u in
    omega (arith, m)
