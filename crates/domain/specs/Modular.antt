-- The four domains: each adds modulo its order.
use Rattle.std.specs.Prelude.{ℕ, ◌^◌, ◌<◌, ◌≤◌}
use Rattle.std.proofs.Common.{lit<, lit≤}
use Rattle.domain.specs.Arithmetic.{Arithmetic}
use Rattle.domain.specs.Operations.{sum, square, product_of_halves}
use Rattle.domain.specs.ModularProofs.{sum-laws, square-code, product_of_halves-code}

-- addition modulo the order, with this single and this stir
abbrev pub modular_arithmetic : (order single : ℕ) (stir : ℕ → ℕ) → 256 ≤ order → order < 2 ^ 64 → ((a : ℕ) → a < order → stir a < order) → Arithmetic order
modular_arithmetic order single stir low high code = record {
  single = single;
  add = sum order;
  stir = stir;
  low = low;
  high = high;
  stir_code = code;
  laws = sum-laws order low;
}

-- the same, and the stir is the square
abbrev pub squaring_arithmetic : (order single : ℕ) → 256 ≤ order → order < 2 ^ 64 → Arithmetic order
squaring_arithmetic order single low high = modular_arithmetic order single (square order) low high (square-code order low)

abbrev pub bytes : Arithmetic 256
bytes = squaring_arithmetic 256 7 (lit≤ tt) (lit< tt)

abbrev pub baby_bear : Arithmetic 2013265921
baby_bear = squaring_arithmetic 2013265921 27 (lit≤ tt) (lit< tt)

abbrev pub koala_bear : Arithmetic 2130706433
koala_bear = squaring_arithmetic 2130706433 24 (lit≤ tt) (lit< tt)

abbrev pub goldilocks : Arithmetic 18446744069414584321
goldilocks = modular_arithmetic 18446744069414584321 32 product_of_halves (lit≤ tt) (lit< tt) product_of_halves-code
