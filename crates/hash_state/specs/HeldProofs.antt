-- Proof only, not to be read to believe a contract: each state in memory holds a value that can be held.
use Rattle.std.specs.Prelude.{◌≡◌, ℕ, ◌≤◌, true, ◌||◌, List, length, take, ◌==◌, nat_le, IsTrue}
use Rattle.std.proofs.Common.{sym, ap, ◌∙◌, subst, arith}
use Rattle.std.proofs.lemmas.List.{length-take-le}
use Rattle.hash_state.specs.declared.state.HashState.{HashState}
use Rattle.hash_state.specs.Listed.{bytes_of}
use Rattle.hash_state.specs.Rules.{can_be_held}
use Rattle.hash_state.specs.Holds.{held_value}
use Rattle.hasher.specs.declared.TheConstants.{LONGEST_DIGEST}

module _ (s : HashState) where
  input-length : length (bytes_of s.input) ≡ s.input.count
  input-length = length-take-le s.input.count s.input.cells (omega (arith, s.input.sized, s.input.within))

  outputs-length : length (take s.left (bytes_of s.input)) ≡ s.left
  outputs-length = length-take-le s.left (bytes_of s.input) (omega (arith, input-length, s.some))

  pub in_memory : IsTrue (can_be_held (held_value s))
  in_memory = rw (outputs-length, input-length) s.drawn
