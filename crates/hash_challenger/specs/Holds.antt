-- What a hash challenger in memory stands for, and what making it fixed.
use Rattle.std.specs.Prelude.{◌≡◌, ℕ, List}
use Rattle.hash_state.specs.declared.held.HashHeld.{HashHeld}
use Rattle.hash_state.specs.Rules.{fresh_value}
use Rattle.hash_state.specs.Holds.{held_value as state_held}
use Rattle.hash_challenger.specs.declared.HashChallenger.{HashChallenger}

-- a challenger over a hasher H whose digests have n bytes
module _ {H : Type 0} {n : ℕ} where
  abbrev pub held_value : HashChallenger H n → HashHeld
  held_value s = state_held s.state

  abbrev pub make : HashChallenger H n → H
  make s = s.hasher

  -- a challenger just made: over this hasher, and it holds the initial bytes and no output
  pub record IsFresh (initial : List ℕ) (hasher : H) (s : HashChallenger H n) : Type 0 where
    pub make_is : make s ≡ hasher
    pub holds : held_value s ≡ fresh_value initial
