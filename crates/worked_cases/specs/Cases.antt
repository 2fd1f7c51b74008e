-- Worked cases, as runs by the rules.
use Rattle.std.specs.Prelude.{◌≡◌, ℕ, List, [], ◌∷◌, Some, None, reverse}
use Rattle.refusal.specs.declared.Refusal.TheVariants.{Shape, AbsorbLengthTagOverflow, Bits as BitsNo, NoWitness, ResamplingError}
use Rattle.domain.specs.Modular.{bytes, baby_bear, goldilocks}
use Rattle.permutation.specs.Ladder.{ladder_rounds}
use Rattle.sponge.specs.Sponge.{SpongeMake}
use Rattle.runs.specs.declared.call.Call.{Call}
use Rattle.runs.specs.declared.call.Call.TheVariants.{Observe, ObserveDigest, Sample, SampleBits, UniformBits, Grind}
use Rattle.runs.specs.declared.answer.Answer.{Answer}
use Rattle.runs.specs.declared.answer.Answer.TheVariants.{Done, Code, Bits, Ground, Refused}
use Rattle.runs.specs.Runs.{answers, value_after}
use Rattle.duplex_challenger.specs.declared.held.DuplexHeld.{DuplexHeld}
use Rattle.duplex_challenger.specs.Rules as duplex
use Rattle.duplex_challenger.specs.Calls as duplex_calls
use Rattle.duplex_challenger.specs.Bytes.{byte_transcript}
use Rattle.multi_field_challenger.specs.declared.held.MultiHeld.{MultiHeld}
use Rattle.multi_field_challenger.specs.Rules as multi
use Rattle.multi_field_challenger.specs.Calls as multi_calls
use Rattle.multi_field_challenger.specs.Holds.{first_no}
use Rattle.serializing_challenger.specs.Calls as serializing_calls

-- calls that lend a list
abbrev pub observe : List ℕ → Call
observe xs = Observe (record { ref_ptr = (0, 0); now = xs })

abbrev pub digest : List ℕ → Call
digest xs = ObserveDigest (record { ref_ptr = (0, 0); now = xs })

-- the answers of calls on a fresh duplex challenger, and what they leave
abbrev pub duplex_answers : {order : ℕ} → SpongeMake order → List Call → List Answer
duplex_answers k = answers (duplex_calls.rule k) (duplex.fresh_value k)

abbrev pub duplex_value : {order : ℕ} → SpongeMake order → List Call → DuplexHeld
duplex_value k = value_after (duplex_calls.rule k) (duplex.fresh_value k)

-- BabyBear under the Mirror
abbrev pub baby_bear_mirror : ℕ → ℕ → SpongeMake 2013265921
baby_bear_mirror width rate = record { arithmetic = baby_bear; image = reverse; width = width; rate = rate }

-- Bytes under a Ladder of one round, and under the Mirror
abbrev pub bytes_ladder : SpongeMake 256
bytes_ladder = record { arithmetic = bytes; image = ladder_rounds bytes 1; width = 2; rate = 1 }

abbrev pub bytes_mirror : SpongeMake 256
bytes_mirror = record { arithmetic = bytes; image = reverse; width = 6; rate = 5 }

-- BabyBear in Goldilocks, under the Mirror
abbrev pub goldilocks_mirror : SpongeMake 18446744069414584321
goldilocks_mirror = record { arithmetic = goldilocks; image = reverse; width = 3; rate = 2 }

abbrev pub multi_answers : List Call → List Answer
multi_answers = answers (multi_calls.rule 2013265921 goldilocks_mirror) (multi.fresh_value 2013265921 goldilocks_mirror)

abbrev pub multi_value : List Call → MultiHeld
multi_value = value_after (multi_calls.rule 2013265921 goldilocks_mirror) (multi.fresh_value 2013265921 goldilocks_mirror)

-- BabyBear over Bytes
abbrev pub serial_answers : List Call → List Answer
serial_answers = answers (serializing_calls.rule 2013265921 (byte_transcript bytes_mirror)) (duplex.fresh_value bytes_mirror)

abbrev pub serial_value : List Call → DuplexHeld
serial_value = value_after (serializing_calls.rule 2013265921 (byte_transcript bytes_mirror)) (duplex.fresh_value bytes_mirror)

pub record WorkedCases : Type 0 where
  -- observe 5: samples 0, 1, 0, 5
  pub samples : duplex_answers (baby_bear_mirror 3 2) (observe (5 ∷ []) ∷ Sample ∷ Sample ∷ Sample ∷ Sample ∷ []) ≡ Done ∷ Code 0 ∷ Code 1 ∷ Code 0 ∷ Code 5 ∷ []
  -- observe 5, 7, then 9: sample 0, row 6, 0, 9
  pub sample : duplex_answers (baby_bear_mirror 3 2) (observe (5 ∷ 7 ∷ []) ∷ observe (9 ∷ []) ∷ Sample ∷ []) ≡ Done ∷ Done ∷ Code 0 ∷ []
  pub row : (duplex_value (baby_bear_mirror 3 2) (observe (5 ∷ 7 ∷ []) ∷ observe (9 ∷ []) ∷ Sample ∷ [])).row ≡ 6 ∷ 0 ∷ 9 ∷ []
  -- observe 0, 2013265920; uniform bits 3 within 1 draw: 26 with 2013265920 twice; again: 2
  pub uniform : duplex_answers (baby_bear_mirror 3 2) (observe (0 ∷ 2013265920 ∷ []) ∷ UniformBits 3 1 ∷ UniformBits 3 1 ∷ []) ≡ Done ∷ Refused (ResamplingError 2013265920 2013265920) ∷ Bits 2 ∷ []
  -- sample bits 30 passes, 31 gets 20
  pub bits : duplex_answers (baby_bear_mirror 3 2) (SampleBits 30 ∷ SampleBits 31 ∷ []) ≡ Bits 0 ∷ Refused BitsNo ∷ []
  -- a grind of 3 bits within 3 gives 2 after 3 trials, and the row 40, 6; within 2 it gets 25 with 2 trials
  pub ground : duplex_answers bytes_ladder (Grind 3 3 ∷ []) ≡ Ground 2 3 ∷ []
  pub ground_row : (duplex_value bytes_ladder (Grind 3 3 ∷ [])).row ≡ 40 ∷ 6 ∷ []
  pub budget : duplex_answers bytes_ladder (Grind 3 2 ∷ []) ≡ Refused (NoWitness 2) ∷ []
  -- a grind of 1 bit within 100 gets 25
  pub vain : duplex_answers (baby_bear_mirror 2 1) (Grind 1 100 ∷ []) ≡ Refused (NoWitness 100) ∷ []
  -- scalars 1, 2, 3: samples 0, 3, 0, 3
  pub scalars : multi_answers (observe (1 ∷ 2 ∷ 3 ∷ []) ∷ Sample ∷ Sample ∷ Sample ∷ Sample ∷ []) ≡ Done ∷ Code 0 ∷ Code 3 ∷ Code 0 ∷ Code 3 ∷ []
  -- scalars 1, 2 and the digest 4294967297, 0 lead to one row once flushed
  pub one_row : (multi_value (observe (1 ∷ 2 ∷ []) ∷ Sample ∷ [])).row ≡ (multi_value (digest (4294967297 ∷ 0 ∷ []) ∷ [])).row
  -- observe 258, sample bits 3: 1, and the output 4 is left
  pub word : serial_answers (observe (258 ∷ []) ∷ SampleBits 3 ∷ []) ≡ Done ∷ Bits 1 ∷ []
  pub output : (serial_value (observe (258 ∷ []) ∷ SampleBits 3 ∷ [])).outputs ≡ 4 ∷ []
  -- Bytes in Goldilocks: RATE 36 passes 13, 37 fails; WIDTH 64 passes 10, 65 fails
  pub batch : first_no 256 18446744069414584321 64 36 ≡ None
  pub long_batch : first_no 256 18446744069414584321 64 37 ≡ Some (AbsorbLengthTagOverflow 259 255)
  pub too_wide : first_no 256 18446744069414584321 65 36 ≡ Some Shape
