-- A challenge of BabyBear, drawn after a commitment and a witness by a duplex challenger that was just made.
use Rattle.std.specs.Prelude.{ℕ, List, Result}
use Rattle.challengers.specs.Refusal.{Refusal}
use Rattle.challengers.specs.Orders.{BABY_BEAR_ORDER}
use Rattle.challengers.specs.Modular.{baby_bear}
use Rattle.challengers.specs.Ladder.{ladder_rounds}
use Rattle.challengers.specs.Sponge.{SpongeMake}
use Rattle.challengers.specs.Meaning.{Reply, reply, and_then, never_refused}
use Rattle.challengers.specs.DuplexHeld.{DuplexHeld}
use Rattle.challengers.specs.DuplexRules.{means, fresh_value, sample_of}
use Rattle.challengers.specs.Ends.{sponge_make}
use Rattle.uses.specs.Witness.{observed_and_ground}

-- 16 cells, a rate of 8, and a Ladder of 8 rounds
abbrev pub ladder_sponge : SpongeMake BABY_BEAR_ORDER
ladder_sponge = sponge_make baby_bear (ladder_rounds baby_bear 8) 16 8

-- the commitment is observed, a witness of 9 bits found below 100,000, and a challenge drawn after it
abbrev pub first_challenge : List ℕ → Reply (Result (ℕ × ℕ) Refusal) DuplexHeld
first_challenge commitment =
    and_then (observed_and_ground (means ladder_sponge) (fresh_value ladder_sponge) commitment 9 100000)
    (λ witness left. never_refused (reply (witness, (sample_of ladder_sponge left).said) (sample_of ladder_sponge left).left))
