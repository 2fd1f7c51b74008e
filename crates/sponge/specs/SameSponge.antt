-- When two sponges are of one make, and the rows that a sponge can hold.
use Rattle.std.specs.Prelude.{◌≡◌, ℕ, Bool, ◌&&◌, List, length, ◌==◌, refl}
use Rattle.domain.specs.Codes.{all_codes}
use Rattle.domain.specs.SameArithmetic.{SameArithmetic, same_arithmetic}
use Rattle.permutation.specs.SameImages.{SameImages}
use Rattle.sponge.specs.Sponge.{SpongeMake}
use Rattle.sponge.specs.SpongeHeld.{is_shape}

-- equal WIDTH and RATE, over a domain and a permutation that mean the same
pub record SameSponge {order : ℕ} (k l : SpongeMake order) : Type 0 where
  pub width : k.width ≡ l.width
  pub rate : k.rate ≡ l.rate
  pub arithmetic : SameArithmetic k.arithmetic l.arithmetic
  pub images : SameImages order k.image l.image

-- a sponge is of its own make
pub same_sponge : {order : ℕ} (k : SpongeMake order) → SameSponge k k
same_sponge k = record { width = refl; rate = refl; arithmetic = same_arithmetic k.arithmetic; images = λ row is_row. refl }

-- does a sponge of this make hold such a row: WIDTH codes, with RATE at least 1 and below WIDTH?
abbrev pub is_row_of : {order : ℕ} → SpongeMake order → List ℕ → Bool
is_row_of {order} k row = is_shape k.width k.rate && (length row == k.width && all_codes order row)
