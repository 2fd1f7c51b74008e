-- When two domains of one order mean the same.
use Rattle.std.specs.Prelude.{◌≡◌, ℕ, ◌<◌, refl}
use Rattle.domain.specs.Arithmetic.{Arithmetic}

-- equal single, equal sums and equal stirs of codes
pub record SameArithmetic {order : ℕ} (d e : Arithmetic order) : Type 0 where
  pub single : d.single ≡ e.single
  pub add : (a b : ℕ) → a < order → b < order → d.add a b ≡ e.add a b
  pub stir : (a : ℕ) → a < order → d.stir a ≡ e.stir a

-- a domain means the same as itself
pub same_arithmetic : {order : ℕ} (d : Arithmetic order) → SameArithmetic d d
same_arithmetic d = record { single = refl; add = λ a b ha hb. refl; stir = λ a ha. refl }
