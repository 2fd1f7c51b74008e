-- The number of each refusal, and the values that it carries.
use Rattle.std.specs.Prelude.{ℕ, List, [], ◌∷◌}
use Rattle.refusal.specs.declared.Refusal.{Refusal}
use Rattle.refusal.specs.declared.Refusal.TheVariants.{Shape, SampledOrder, FieldOrderNotIncreasing, AbsorbLengthTagOverflow, Rounds, InitialState, Bits, DrawLimit, Budget, NotCode, Room, NoWitness, ResamplingError}

abbrev pub number : Refusal → ℕ
number Shape = 10
number SampledOrder = 11
number (FieldOrderNotIncreasing sampled sponge) = 12
number (AbsorbLengthTagOverflow len most) = 13
number Rounds = 14
number InitialState = 15
number Bits = 20
number DrawLimit = 21
number Budget = 22
number NotCode = 23
number Room = 24
number (NoWitness trials) = 25
number (ResamplingError last bound) = 26

-- what the case carries, in order
abbrev pub values : Refusal → List ℕ
values (FieldOrderNotIncreasing sampled sponge) = sampled ∷ sponge ∷ []
values (AbsorbLengthTagOverflow len most) = len ∷ most ∷ []
values (NoWitness trials) = trials ∷ []
values (ResamplingError last bound) = last ∷ bound ∷ []
values _ = []
