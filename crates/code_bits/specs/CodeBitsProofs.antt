-- Proof only, not to be read to believe a contract: the bits of a code are the least.
use Rattle.std.specs.Prelude.{◌≡◌, ℕ, suc, ◌*◌, ◌/◌, ◌^◌, ◌<◌, ◌≤◌, max, Bool, nat_le}
use Rattle.std.proofs.Common.{arith, lit<, pow-suc}
use Rattle.std.proofs.Math.Nat.{pow-le-pow_right, one-le-pow}
use Rattle.std.proofs.Math.Logic.{⊎_elim}
use Rattle.std.proofs.lemmas.Bool.{le-leb, leb-true, cases_lt, both_ways}
use Rattle.challenger_traits.specs.Grinding.{first}
use Rattle.challenger_traits.specs.GrindingProofs.{first_below, first_holds}
use Rattle.code_bits.specs.CodeBits.{code_bits, IsLeastBits}
use Rattle.refusal.specs.declared.limits.TheConstants.{GREATEST_SAMPLED_ORDER}

twice : (a b : ℕ) → a < b → 2 * 2 ^ a ≤ 2 ^ b
twice a b lt =
    let h : 2 ^ suc a ≤ 2 ^ b = pow-le-pow_right {n = 2} (lit< tt) lt in
    omega (arith, h, pow-suc 2 a)

-- a power of two lies between one power and the next only as that power
pub exponent : (n k r : ℕ) → n ≡ 2 ^ k → 2 ^ r ≤ n → n < 2 * 2 ^ r → r ≡ k
exponent n k r e low high =
    ⊎_elim (λ lt. absurd (omega (arith, twice r k lt))) (λ ge. ⊎_elim (λ lt. absurd (omega (arith, twice k r lt))) (λ le. omega arith) (cases_lt k r)) (cases_lt r k)

module _ (order : ℕ) (small : order ≤ GREATEST_SAMPLED_ORDER) where
  pub at_most : code_bits order < 33
  unfolding code_bits
  at_most =
      let p : ℕ → Bool = λ c. nat_le order (2 ^ c) in
      ⊎_elim (λ lt. lt) (λ ge. absurd (both_ways (p 32) (first_below p 33 32 (omega arith)) (le-leb order (2 ^ 32) small))) (cases_lt (first p 33) 33)

  pub code_bits-least : IsLeastBits order (code_bits order)
  unfolding code_bits
  code_bits-least =
      let p : ℕ → Bool = λ c. nat_le order (2 ^ c) in
      record {
        enough = leb-true order (2 ^ first p 33) (first_holds p 33 at_most);
        least = λ c h. ⊎_elim (λ lt. absurd (both_ways (p c) (first_below p 33 c lt) (le-leb order (2 ^ c) h))) (λ ge. ge) (cases_lt c (first p 33));
      }

  -- the next power of two, as the library says it, is 2 to the bits
  pub code_bits-next : (n k : ℕ) → n ≡ 2 ^ k → order ≤ n → n / 2 < max 1 order → k ≡ code_bits order
  code_bits-next n k e enough next =
      let l = code_bits-least in
      let up : k ≤ code_bits order =
      ⊎_elim (λ lt. absurd (omega (arith, twice (code_bits order) k lt, one-le-pow (code_bits order) 2 (lit< tt), l.enough))) (λ ge. ge) (cases_lt (code_bits order) k) in
      omega (arith, up, l.least k (omega arith))
