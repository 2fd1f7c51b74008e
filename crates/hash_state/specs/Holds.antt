-- What a hash challenger in memory stands for.
use Rattle.std.specs.Prelude.{ℕ, ◌-◌, List, take}
use Rattle.hash_state.specs.declared.state.HashState.{HashState}
use Rattle.hash_state.specs.declared.prepared_input.PreparedInput.{PreparedInput}
use Rattle.hash_state.specs.declared.held.HashHeld.{HashHeld}
use Rattle.hash_state.specs.Listed.{bytes_of}
use Rattle.hash_state.specs.Rules.{hash_held}

abbrev pub held_value : HashState → HashHeld
held_value s = hash_held (bytes_of s.input) (take s.left (bytes_of s.input))

-- a prepared input, without and with what stands in the four places
abbrev pub front : PreparedInput → List ℕ
front p = take (p.bytes.count - 4) (bytes_of p.bytes)

abbrev pub whole_input : PreparedInput → List ℕ
whole_input p = bytes_of p.bytes
