-- How many scalars go into a word, and how many come out of one.
use Rattle.std.specs.Prelude.{◌≡◌, ℕ, zero, suc, ◌*◌, ◌^◌, ◌≤◌, max, nat_le, if◌then◌else◌}
use Rattle.code_bits.specs.CodeBits.{code_bits}

-- n is the greatest number with base^n at most the order
pub record IsGreatestPower (base order n : ℕ) : Type 0 where
  pub fits : base ^ n ≤ order
  pub greatest : (m : ℕ) → base ^ m ≤ order → m ≤ n

-- the greatest n up to a limit with base^n at most the order
abbrev pub greatest_power_to : ℕ → ℕ → ℕ → ℕ
greatest_power_to base order zero = 0
greatest_power_to base order (suc n) = if nat_le (base ^ suc n) order then suc n else greatest_power_to base order n

-- no power above the 63rd of a base of 2 or more is below 2^64
unfoldable pub greatest_power : ℕ → ℕ → ℕ
greatest_power base order = greatest_power_to base order 64

-- limbs: how often the radix bits fit below the sponge order, at least once
unfoldable pub limbs : ℕ → ℕ → ℕ
limbs sampled order = max 1 (greatest_power (2 ^ code_bits sampled) order)

pub record IsLimbs (sampled order n : ℕ) : Type 0 where
  pub some : 1 ≤ n
  pub fits : (m : ℕ) → 1 ≤ m → 2 ^ (code_bits sampled * m) ≤ order → 2 ^ (code_bits sampled * n) ≤ order
  pub alone : ((m : ℕ) → 1 ≤ m → 2 ^ (code_bits sampled * m) ≤ order → ⊥) → n ≡ 1
  pub greatest : (m : ℕ) → 2 ^ (code_bits sampled * m) ≤ order → m ≤ n

-- k: the greatest power of the sampled order that the sponge order reaches
abbrev pub digits : ℕ → ℕ → ℕ
digits sampled order = greatest_power sampled order
