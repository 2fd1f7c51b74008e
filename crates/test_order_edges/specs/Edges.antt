-- Domains at the greatest order that can be sampled, and one above.
use Rattle.std.proofs.Common.{lit<, lit≤}
use Rattle.domain.specs.Arithmetic.{Arithmetic}
use Rattle.domain.specs.Modular.{modular_arithmetic}

abbrev pub greatest : Arithmetic 4294967296
greatest = modular_arithmetic 4294967296 31 (λ a. a) (lit≤ tt) (lit< tt) (λ a code. code)

abbrev pub above : Arithmetic 4294967297
above = modular_arithmetic 4294967297 31 (λ a. a) (lit≤ tt) (lit< tt) (λ a code. code)
