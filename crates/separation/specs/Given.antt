-- A challenger that is given a block: which it takes, and what it holds once the block is observed and a sample taken.
use Rattle.std.specs.Prelude.{◌≡◌, ℕ, Bool, true, false, ◌&&◌, List, length, Some, None, Option, ◌==◌}
use Rattle.challenger_traits.specs.Observing.{after_codes}
use Rattle.sponge.specs.Sponge.{SpongeMake}
use Rattle.duplex_challenger.specs.declared.held.DuplexHeld.{DuplexHeld}
use Rattle.duplex_challenger.specs.Rules.{after_code as duplex_after_code, sample_of as duplex_sample_of}
use Rattle.multi_field_challenger.specs.declared.held.MultiHeld.{MultiHeld}
use Rattle.multi_field_challenger.specs.Rules.{after_code as multi_after_code, after_digest, sample_of as multi_sample_of}
use Rattle.sponge.specs.Tags.{Numbers, codes, scalars, words}
use Rattle.separation.specs.Blocks.{is_list_of_codes, is_block, after_given}

-- the row `after` is that of one turn with this block, or of an empty turn, from the row `before`
abbrev pub IsOneTurn : {order : ℕ} → ℕ → SpongeMake order → List ℕ → Option Numbers → List ℕ → Type 0
IsOneTurn sampled k before given after = after ≡ (after_given sampled k before given).row

-- a duplex challenger absorbs codes
abbrev pub is_duplex_turn : (order rate : ℕ) → Option Numbers → Bool
is_duplex_turn order rate None = true
is_duplex_turn order rate (Some (codes xs)) = is_list_of_codes order rate xs
is_duplex_turn order rate (Some (scalars xs)) = false
is_duplex_turn order rate (Some (words xs)) = false

-- a multi-field challenger absorbs scalars and words
abbrev pub is_multi_turn : (sampled order rate : ℕ) → Option Numbers → Bool
is_multi_turn sampled order rate None = true
is_multi_turn sampled order rate (Some (codes xs)) = false
is_multi_turn sampled order rate (Some (scalars xs)) = is_block sampled order rate (scalars xs)
is_multi_turn sampled order rate (Some (words xs)) = is_block sampled order rate (words xs)

-- is this list of outputs empty, where no block is given? A block that is observed drops them all; with none a sample takes what is left, and turns only if nothing is
abbrev pub is_empty_unless_given : Option Numbers → List ℕ → Bool
is_empty_unless_given None left = length left == 0
is_empty_unless_given (Some block) left = true

module _ {order : ℕ} (k : SpongeMake order) where
  -- is nothing pending, and is this a block of a duplex challenger, or none with no output left?
  abbrev pub duplex_takes : DuplexHeld → Option Numbers → Bool
  duplex_takes h given = length h.pending == 0 && (is_empty_unless_given given h.outputs && is_duplex_turn order k.rate given)

  -- the codes are observed, if there are some, and a sample is taken; any other block is not taken
  abbrev pub duplex_after_given : DuplexHeld → Option Numbers → DuplexHeld
  duplex_after_given h None = (duplex_sample_of k h).left
  duplex_after_given h (Some (codes xs)) = (duplex_sample_of k (after_codes (duplex_after_code k) h xs)).left
  duplex_after_given h (Some (scalars xs)) = h
  duplex_after_given h (Some (words xs)) = h

module _ {order : ℕ} (sampled : ℕ) (k : SpongeMake order) where
  -- is nothing pending, and is this a block of a multi-field challenger, or none with no output left and the squeeze list empty?
  abbrev pub multi_takes : MultiHeld → Option Numbers → Bool
  multi_takes h given = length h.pending == 0 && (is_empty_unless_given given h.outputs && (is_empty_unless_given given h.squeeze && is_multi_turn sampled order k.rate given))

  -- the scalars are observed, or the words as a digest, if there are some, and a sample is taken; any other block is not taken
  abbrev pub multi_after_given : MultiHeld → Option Numbers → MultiHeld
  multi_after_given h None = (multi_sample_of sampled k h).left
  multi_after_given h (Some (codes xs)) = h
  multi_after_given h (Some (scalars xs)) = (multi_sample_of sampled k (after_codes (multi_after_code sampled k) h xs)).left
  multi_after_given h (Some (words xs)) = (multi_sample_of sampled k (after_digest sampled k h xs)).left
