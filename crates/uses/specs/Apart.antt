-- Two challengers, or two sponges, made alike under one of the permutations: what they hold fresh, and once a block or none was given to them.
use Rattle.std.specs.Prelude.{[], replicate, Option}
use Rattle.challengers.specs.Permutation.{Permutation}
use Rattle.challengers.specs.DuplexHeld.{DuplexHeld}
use Rattle.challengers.specs.MultiHeld.{MultiHeld}
use Rattle.challengers.specs.Orders.{BABY_BEAR_ORDER, GOLDILOCKS_ORDER}
use Rattle.challengers.specs.Modular.{goldilocks}
use Rattle.challengers.specs.PermutationChoice.{image}
use Rattle.challengers.specs.Sponge.{SpongeMake, SpongeState, sponge_state}
use Rattle.challengers.specs.SpongeHeld.{parameters_of, meaning_of_make}
use Rattle.challengers.specs.DuplexRules.{fresh_value as duplex_fresh}
use Rattle.challengers.specs.MultiFieldRules.{fresh_value as multi_fresh}
use Rattle.challengers.specs.Tags.{Numbers}
use Rattle.challengers.specs.SeparationBlocks.{after_given}
use Rattle.challengers.specs.Given.{duplex_after_given, multi_after_given}
use Rattle.uses.specs.BabyBear.{baby_bear_sponge}

-- what a sponge of 8 cells holds fresh
abbrev pub made_sponge : SpongeState
made_sponge = sponge_state (replicate 8 0) []

module _ (permutation : Permutation) where
  -- what making the duplex challengers fixes: 16 cells, of which the first 8 are the rate, over BabyBear
  abbrev pub duplex_sponge : SpongeMake BABY_BEAR_ORDER
  duplex_sponge = baby_bear_sponge (parameters_of 16 8 permutation)

  -- what a fresh one holds
  abbrev pub made_duplex : DuplexHeld
  made_duplex = duplex_fresh duplex_sponge

  -- what a fresh one holds once this was given to it
  abbrev pub given_duplex : Option Numbers → DuplexHeld
  given_duplex given = duplex_after_given duplex_sponge made_duplex given

  -- what making the multi-field challengers and the sponges fixes: 8 cells, of which the first 4 are the rate, over Goldilocks
  abbrev pub multi_sponge : SpongeMake GOLDILOCKS_ORDER
  multi_sponge = meaning_of_make goldilocks (image goldilocks) (parameters_of 8 4 permutation)

  -- what a fresh one holds
  abbrev pub made_multi : MultiHeld
  made_multi = multi_fresh BABY_BEAR_ORDER multi_sponge

  -- what a fresh one holds once this was given to it
  abbrev pub given_multi : Option Numbers → MultiHeld
  given_multi given = multi_after_given BABY_BEAR_ORDER multi_sponge made_multi given

  -- what a sponge made so holds after a turn with this, of codes, of words or of scalars of BabyBear
  abbrev pub turned_sponge : Option Numbers → SpongeState
  turned_sponge given = after_given BABY_BEAR_ORDER multi_sponge made_sponge.row given
