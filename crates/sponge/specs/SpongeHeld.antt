-- What a sponge in memory stands for.
use Rattle.std.specs.Prelude.{◌≡◌, ℕ, List, Bool, ◌&&◌, [], replicate, Some, None, Option, nat_le, nat_lt, if◌then◌else◌}
use Rattle.refusal.specs.declared.Refusal.{Refusal}
use Rattle.refusal.specs.declared.Refusal.TheVariants.{Shape}
use Rattle.domain.specs.Arithmetic.{Arithmetic}
use Rattle.domain.specs.declared.Domain.{Ghosts as DomainGhosts}
use Rattle.permutation.specs.declared.CryptographicPermutation.{Ghosts as PermutationGhosts}
use Rattle.buffer.specs.Items.{items}
use Rattle.sponge.specs.Sponge.{SpongeMake, SpongeState, sponge_state}
use Rattle.sponge.specs.declared.Sponge.{Sponge}
use Rattle.sponge.specs.declared.parameters.Parameters.{Parameters}
use Rattle.refusal.specs.declared.limits.TheConstants.{WIDEST_ROW}

-- is the rate at least 1 and below the width, and the width at most the widest row?
abbrev pub is_shape : ℕ → ℕ → Bool
is_shape width rate = nat_le 1 rate && (nat_lt rate width && nat_le width WIDEST_ROW)

-- the question of making
abbrev pub shape_no : ℕ → ℕ → Option Refusal
shape_no width rate = if is_shape width rate then None else Some Shape

-- WIDTH, RATE and the permutation, as making fixes them
abbrev pub parameters_of : {P : Type 0} → ℕ → ℕ → P → Parameters P
parameters_of width rate permutation = record { width = width; rate = rate; permutation = permutation }

-- what they mean, with the domain's arithmetic and the permutation's image
abbrev pub meaning_of_make : {order : ℕ} {P : Type 0} → Arithmetic order → (P → List ℕ → List ℕ) → Parameters P → SpongeMake order
meaning_of_make d image m = record { arithmetic = d; image = image m.permutation; width = m.width; rate = m.rate }

-- a sponge over a domain d and a permutation's meaning p
module _ {D P : Type 0} {order : ℕ} {d : DomainGhosts D order} {p : PermutationGhosts P D order} where
  abbrev pub held_value : Sponge D P order d p → SpongeState
  held_value s = sponge_state (items s.row) (items s.outputs)

  abbrev pub make : Sponge D P order d p → Parameters P
  make s = parameters_of s.width s.rate s.permutation

  -- the domain's arithmetic, the image of the sponge's permutation, and its width and rate
  abbrev pub make_meaning : Sponge D P order d p → SpongeMake order
  make_meaning s = meaning_of_make d.arithmetic p.image (make s)

  -- a new sponge of this width, rate and permutation: zeros, and no output
  pub record IsFresh (width rate : ℕ) (permutation : P) (s : Sponge D P order d p) : Type 0 where
    pub permutation_is : s.permutation ≡ permutation
    pub width_is : s.width ≡ width
    pub rate_is : s.rate ≡ rate
    pub zeros : held_value s ≡ sponge_state (replicate width 0) []

  -- the two have one permutation, width and rate
  pub record SameMake (s t : Sponge D P order d p) : Type 0 where
    pub permutation : s.permutation ≡ t.permutation
    pub width : s.width ≡ t.width
    pub rate : s.rate ≡ t.rate
