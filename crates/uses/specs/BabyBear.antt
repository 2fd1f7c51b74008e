-- What making fixes for a duplex challenger over BabyBear.
use Rattle.challengers.specs.Parameters.{Parameters}
use Rattle.challengers.specs.Permutation.{Permutation}
use Rattle.challengers.specs.Orders.{BABY_BEAR_ORDER}
use Rattle.challengers.specs.Modular.{baby_bear}
use Rattle.challengers.specs.PermutationChoice.{image}
use Rattle.challengers.specs.LadderType.{Ladder}
use Rattle.challengers.specs.Ladder.{ladder_rounds}
use Rattle.challengers.specs.Sponge.{SpongeMake}
use Rattle.challengers.specs.SpongeHeld.{meaning_of_make}

-- under one of the permutations
abbrev pub baby_bear_sponge : Parameters Permutation → SpongeMake BABY_BEAR_ORDER
baby_bear_sponge m = meaning_of_make baby_bear (image baby_bear) m

-- under a Ladder
abbrev pub baby_bear_ladder : Parameters Ladder → SpongeMake BABY_BEAR_ORDER
baby_bear_ladder m = meaning_of_make baby_bear (λ l. ladder_rounds baby_bear l.rounds) m
