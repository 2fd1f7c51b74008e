-- A row of a log of 2^10, drawn after a witness of 8 bits below 10,000, by each end on a challenger that was just made.
use Rattle.std.specs.Prelude.{ℕ, List, Some, None, Err, Option, Result}
use Rattle.challengers.specs.Refusal.{Refusal}
use Rattle.challengers.specs.Permutation.{Permutation}
use Rattle.challengers.specs.Hasher.{Hasher}
use Rattle.challengers.specs.HashHeld.{HashHeld}
use Rattle.challengers.specs.Orders.{BABY_BEAR_ORDER}
use Rattle.challengers.specs.Grinding.{Means}
use Rattle.challengers.specs.DuplexRules.{means, fresh_value}
use Rattle.challengers.specs.HashRules.{initial_no, fresh_value as hash_fresh}
use Rattle.challengers.specs.SerializingRules.{means as serializing_means}
use Rattle.challengers.specs.Usual.{hash_bytes}
use Rattle.uses.specs.Apart.{duplex_sponge}
use Rattle.uses.specs.Witness.{row_after_witness, checked_row}

-- on a duplex challenger of BabyBear, 16 cells wide and with a rate of 8
module _ (permutation : Permutation) where
  -- the prover's witness and row
  abbrev pub prover_row : List ℕ → Result (ℕ × ℕ) Refusal
  prover_row numbers =
      (row_after_witness (means (duplex_sponge permutation)) (fresh_value (duplex_sponge permutation)) numbers 8 10000 10).said

  -- the verifier's row, if its check of the witness says yes
  abbrev pub verifier_row : List ℕ → ℕ → Result (Option ℕ) Refusal
  verifier_row numbers witness =
      (checked_row (means (duplex_sponge permutation)) (fresh_value (duplex_sponge permutation)) numbers 8 witness 10).said

-- what a serializing challenger of BabyBear over a hash challenger means
abbrev pub means_over_hash : Hasher → Means HashHeld
means_over_hash hasher = serializing_means BABY_BEAR_ORDER (hash_bytes hasher)

-- what comes after a make: the refusal of the make, if this question of it says no
abbrev pub once_made : {Given : Type 0} → Option Refusal → Result Given Refusal → Result Given Refusal
once_made None after = after
once_made (Some e) after = Err e

-- on a serializing challenger of BabyBear over a hash challenger that begins with these bytes
module _ (initial : List ℕ) (hasher : Hasher) where
  -- the prover's witness and row
  abbrev pub prover_row_over_hash : List ℕ → Result (ℕ × ℕ) Refusal
  prover_row_over_hash numbers =
      once_made (initial_no initial) (row_after_witness (means_over_hash hasher) (hash_fresh initial) numbers 8 10000 10).said

  -- the verifier's row, if its check of the witness says yes
  abbrev pub verifier_row_over_hash : List ℕ → ℕ → Result (Option ℕ) Refusal
  verifier_row_over_hash numbers witness =
      once_made (initial_no initial) (checked_row (means_over_hash hasher) (hash_fresh initial) numbers 8 witness 10).said
