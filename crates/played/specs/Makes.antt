-- Challengers made as a line asks.
use Rattle.std.specs.Prelude.{ℕ, Option}
use Rattle.refusal.specs.declared.Refusal.{Refusal}
use Rattle.domain.specs.Arithmetic.{Arithmetic}
use Rattle.sponge.specs.Sponge.{SpongeMake}
use Rattle.sponge.specs.SpongeHeld.{shape_no}
use Rattle.multi_field_challenger.specs.Holds.{first_no}
use Rattle.agreement.specs.Ends.{or_above}
use Rattle.script.specs.declared.SpongeParameters.{SpongeParameters}
use Rattle.played.specs.Permutations.{named_no, named_image}

-- a sponge of the named permutation, WIDTH and RATE
abbrev pub asked_sponge : {order : ℕ} → Arithmetic order → SpongeParameters → SpongeMake order
asked_sponge d asked = record { arithmetic = d; image = named_image d asked.permutation; width = asked.width; rate = asked.rate }

-- the questions of making; the permutation is made first
abbrev pub duplex_no : SpongeParameters → Option Refusal
duplex_no asked = or_above (named_no asked.permutation) (shape_no asked.width asked.rate)

abbrev pub multi_no : ℕ → ℕ → SpongeParameters → Option Refusal
multi_no sampled order asked = or_above (named_no asked.permutation) (first_no sampled order asked.width asked.rate)
