-- The operations of the four domains.
use Rattle.std.specs.Prelude.{ℕ, ◌+◌, ◌*◌, ◌/◌, ◌%◌}

-- addition modulo the order
abbrev pub sum : ℕ → ℕ → ℕ → ℕ
sum order a b = (a + b) % order

-- the square modulo the order
abbrev pub square : ℕ → ℕ → ℕ
square order a = a * a % order

-- the low 32 bits times the others
abbrev pub product_of_halves : ℕ → ℕ
product_of_halves a = (a % 4294967296) * (a / 4294967296)
