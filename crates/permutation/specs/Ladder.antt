-- What a ladder does to a row.
use Rattle.std.specs.Prelude.{ℕ, zero, suc, ◌+◌, ◌%◌, Bool, ◌&&◌, List, length, Some, None, Option, nat_le, slice_index, slice_set, if◌then◌else◌}
use Rattle.refusal.specs.declared.Refusal.{Refusal}
use Rattle.refusal.specs.declared.Refusal.TheVariants.{Rounds}
use Rattle.domain.specs.Arithmetic.{Arithmetic}
use Rattle.refusal.specs.declared.limits.TheConstants.{MOST_ROUNDS}

-- is the number of rounds at least 1, and at most the most?
abbrev pub is_round_count : ℕ → Bool
is_round_count rounds = nat_le 1 rounds && nat_le rounds MOST_ROUNDS

-- the question of making a ladder
abbrev pub rounds_no : ℕ → Option Refusal
rounds_no rounds = if is_round_count rounds then None else Some Rounds

-- step i of round r: the cell after cell i gains stir (cell i) + (r + i + 1); after the last cell comes the first
unfoldable pub ladder_step : {order : ℕ} → Arithmetic order → ℕ → ℕ → List ℕ → List ℕ
ladder_step d r i xs =
    slice_set xs ((i + 1) % length xs)
    (d.add (slice_index xs ((i + 1) % length xs)) (d.add (d.stir (slice_index xs i)) (r + i + 1)))

-- the first n steps of round r
abbrev pub ladder_steps : {order : ℕ} → Arithmetic order → ℕ → ℕ → List ℕ → List ℕ
ladder_steps d r zero xs = xs
ladder_steps d r (suc n) xs = ladder_step d r n (ladder_steps d r n xs)

-- the first n rounds, each of a step for every cell
abbrev pub ladder_rounds : {order : ℕ} → Arithmetic order → ℕ → List ℕ → List ℕ
ladder_rounds d zero xs = xs
ladder_rounds d (suc n) xs = ladder_steps d n (length xs) (ladder_rounds d n xs)
