-- What a multi-field challenger in memory stands for, and when one is made.
use Rattle.std.specs.Prelude.{◌≡◌, ℕ, ◌*◌, Bool, ◌&&◌, length, Some, None, Option, nat_le, nat_lt, if◌then◌else◌}
use Rattle.refusal.specs.declared.Refusal.{Refusal}
use Rattle.refusal.specs.declared.Refusal.TheVariants.{Shape, SampledOrder, FieldOrderNotIncreasing, AbsorbLengthTagOverflow}
use Rattle.domain.specs.Codes.{all_codes}
use Rattle.domain.specs.declared.Domain.{Ghosts as DomainGhosts}
use Rattle.permutation.specs.declared.CryptographicPermutation.{Ghosts as PermutationGhosts}
use Rattle.buffer.specs.Items.{items}
use Rattle.sponge.specs.Sponge.{SpongeMake}
use Rattle.sponge.specs.SpongeHeld.{held_value as sponge_held, is_shape, parameters_of, make as sponge_make, make_meaning as sponge_make_meaning}
use Rattle.sponge.specs.SameSponge.{is_row_of}
use Rattle.sponge.specs.declared.parameters.Parameters.{Parameters}
use Rattle.packing.specs.Powers.{limbs}
use Rattle.multi_field_challenger.specs.declared.MultiField32Challenger.{MultiField32Challenger}
use Rattle.multi_field_challenger.specs.declared.held.MultiHeld.{MultiHeld}
use Rattle.multi_field_challenger.specs.Rules.{multi_held_with, fresh_value}
use Rattle.refusal.specs.declared.limits.TheConstants.{LONGEST_BATCH, GREATEST_SAMPLED_ORDER}

-- the refusal of a failed question; passed, the questions after it decide
abbrev pub refusal_or : Bool → Refusal → Option Refusal → Option Refusal
refusal_or passed e rest = if passed then rest else Some e

-- the questions of making in rising order: the first no
abbrev pub first_no : (sampled order width rate : ℕ) → Option Refusal
first_no sampled order width rate =
    refusal_or (is_shape width rate) Shape
    (refusal_or (nat_le sampled GREATEST_SAMPLED_ORDER) SampledOrder
    (refusal_or (nat_lt sampled order) (FieldOrderNotIncreasing sampled order)
    (refusal_or (nat_le (limbs sampled order * rate) LONGEST_BATCH) (AbsorbLengthTagOverflow (limbs sampled order * rate) LONGEST_BATCH) None)))

-- are the questions on the orders and on the batch passed: the sampled order is small enough, and below the sponge's, and limbs times RATE is no more than the longest batch?
abbrev pub is_pair : (sampled order rate : ℕ) → Bool
is_pair sampled order rate = nat_le sampled GREATEST_SAMPLED_ORDER && (nat_lt sampled order && nat_le (limbs sampled order * rate) LONGEST_BATCH)

-- can a challenger of this make hold this: a row of WIDTH codes, and fewer than limbs times RATE scalars pending?
abbrev pub can_be_held : {order : ℕ} → ℕ → SpongeMake order → MultiHeld → Bool
can_be_held {order} sampled k h =
    is_row_of k h.row && (is_pair sampled order k.rate && (nat_lt (length h.pending) (limbs sampled order * k.rate) && all_codes sampled h.pending))

-- a challenger over a sampled domain f, a sponge domain d and a permutation's meaning p
module _ {F D P : Type 0} {sampled order : ℕ} {f : DomainGhosts F sampled} {d : DomainGhosts D order} {p : PermutationGhosts P D order} where
  abbrev pub held_value : MultiField32Challenger F D P sampled order f d p → MultiHeld
  held_value s = multi_held_with (sponge_held s.sponge) (items s.pending) (items s.squeeze)

  abbrev pub make : MultiField32Challenger F D P sampled order f d p → Parameters P
  make s = sponge_make s.sponge

  -- the arithmetic, the image, WIDTH and RATE
  abbrev pub make_meaning : MultiField32Challenger F D P sampled order f d p → SpongeMake order
  make_meaning s = sponge_make_meaning s.sponge

  -- a challenger just made: of this WIDTH, RATE and permutation, and it holds zeros and empty lists
  pub record IsFresh (width rate : ℕ) (permutation : P) (s : MultiField32Challenger F D P sampled order f d p) : Type 0 where
    pub make_is : make s ≡ parameters_of width rate permutation
    pub holds : held_value s ≡ fresh_value sampled (make_meaning s)
