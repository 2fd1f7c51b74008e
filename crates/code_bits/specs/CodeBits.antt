-- The bits of a code.
use Rattle.std.specs.Prelude.{ℕ, ◌^◌, ◌≤◌, nat_le}
use Rattle.challenger_traits.specs.Grinding.{first}

-- the least c, up to 32, with 2^c at least the order
unfoldable pub code_bits : ℕ → ℕ
code_bits order = first (λ c. nat_le order (2 ^ c)) 33

-- b is the least number with 2^b at least the order
pub record IsLeastBits (order b : ℕ) : Type 0 where
  pub enough : order ≤ 2 ^ b
  pub least : (c : ℕ) → order ≤ 2 ^ c → b ≤ c
