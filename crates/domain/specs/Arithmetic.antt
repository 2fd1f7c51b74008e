-- What a domain means. Its codes are the numbers below its order.
use Rattle.std.specs.Prelude.{◌≡◌, ℕ, ◌^◌, ◌<◌, ◌≤◌}

-- the codes are a commutative group under add, with 0 neutral
pub record GroupLaws (order : ℕ) (add : ℕ → ℕ → ℕ) : Type 0 where
  pub code : (a b : ℕ) → a < order → b < order → add a b < order
  pub comm : (a b : ℕ) → a < order → b < order → add a b ≡ add b a
  pub assoc : (a b c : ℕ) → a < order → b < order → c < order → add (add a b) c ≡ add a (add b c)
  pub neutral : (a : ℕ) → a < order → add a 0 ≡ a
  pub opposite : (a : ℕ) → a < order → (b : ℕ) × (b < order) × (add a b ≡ 0)

-- the number single, the addition and the stir of a domain, with what they obey
pub record Arithmetic (order : ℕ) : Type 0 where
  pub single : ℕ
  pub add : ℕ → ℕ → ℕ
  pub stir : ℕ → ℕ
  pub low : 256 ≤ order
  pub high : order < 2 ^ 64
  pub stir_code : (a : ℕ) → a < order → stir a < order
  pub laws : GroupLaws order add
