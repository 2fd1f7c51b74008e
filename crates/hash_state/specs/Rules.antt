-- The rules of the hash challenger, on what it holds.
use Rattle.std.specs.Prelude.{ℕ, ◌-◌, Bool, ◌||◌, List, [], ◌∷◌, ◌++◌, length, take, Some, None, Option, Ok, Err, Result, ◌==◌, nat_le, slice_index, if◌then◌else◌}
use Rattle.refusal.specs.declared.Refusal.{Refusal}
use Rattle.refusal.specs.declared.Refusal.TheVariants.{InitialState, Room}
use Rattle.challenger_traits.specs.Meaning.{Reply, reply}
use Rattle.hash_state.specs.declared.held.HashHeld.{HashHeld}
use Rattle.hasher.specs.declared.TheConstants.{LONGEST_DIGEST}
use Rattle.refusal.specs.declared.limits.TheConstants.{LONGEST_INPUT}

abbrev pub hash_held : List ℕ → List ℕ → HashHeld
hash_held input outputs = record { input = input; outputs = outputs }

-- fresh it holds the initial bytes and no output
abbrev pub fresh_value : List ℕ → HashHeld
fresh_value initial = hash_held initial []

-- has the initial state at most so many bytes?
abbrev pub is_initial : List ℕ → Bool
is_initial initial = nat_le (length initial) LONGEST_INPUT

-- the question of making
abbrev pub initial_no : List ℕ → Option Refusal
initial_no initial = if is_initial initial then None else Some InitialState

abbrev pub room : HashHeld → ℕ
room h = LONGEST_INPUT - length h.input

-- the values that can be held: no output is left, or the input is no longer than a digest
abbrev pub can_be_held : HashHeld → Bool
can_be_held h = length h.outputs == 0 || nat_le (length h.input) LONGEST_DIGEST

-- no bytes change nothing; some drop the outputs and are appended to the input
abbrev pub after_append : HashHeld → List ℕ → HashHeld
after_append h [] = h
after_append h (b ∷ bs) = hash_held (h.input ++ (b ∷ bs)) []

-- what an observe leaves, or its refusal
abbrev pub after_observe : HashHeld → List ℕ → Result HashHeld Refusal
after_observe h bs = if nat_le (length bs) (room h) then Ok (after_append h bs) else Err Room

-- outputs are taken from the end
abbrev pub last_output : HashHeld → ℕ
last_output h = slice_index h.outputs (length h.outputs - 1)

abbrev pub without_output : HashHeld → HashHeld
without_output h = hash_held h.input (take (length h.outputs - 1) h.outputs)

module _ (digest : List ℕ → List ℕ) where
  -- before a sample, with no output left, the input and the outputs become the digest of the input
  abbrev pub with_output : HashHeld → HashHeld
  with_output h = if length h.outputs == 0 then hash_held (digest h.input) (digest h.input) else h

  -- a sample takes the last output
  abbrev pub sample_of : HashHeld → Reply ℕ HashHeld
  sample_of h = reply (last_output (with_output h)) (without_output (with_output h))
