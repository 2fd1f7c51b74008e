-- What a duplex challenger in memory stands for.
use Rattle.std.specs.Prelude.{◌≡◌, ℕ, Bool, ◌&&◌, length, nat_lt}
use Rattle.domain.specs.Codes.{all_codes}
use Rattle.domain.specs.declared.Domain.{Ghosts as DomainGhosts}
use Rattle.permutation.specs.declared.CryptographicPermutation.{Ghosts as PermutationGhosts}
use Rattle.buffer.specs.Items.{items}
use Rattle.sponge.specs.Sponge.{SpongeMake}
use Rattle.sponge.specs.SpongeHeld.{parameters_of, make as sponge_make, make_meaning as sponge_make_meaning}
use Rattle.sponge.specs.SameSponge.{is_row_of}
use Rattle.sponge.specs.declared.parameters.Parameters.{Parameters}
use Rattle.duplex_challenger.specs.declared.DuplexChallenger.{DuplexChallenger}
use Rattle.duplex_challenger.specs.declared.held.DuplexHeld.{DuplexHeld}
use Rattle.duplex_challenger.specs.Rules.{duplex_held, fresh_value}

-- can a challenger of this make hold this: a row of WIDTH codes, and fewer than RATE codes pending?
abbrev pub can_be_held : {order : ℕ} → SpongeMake order → DuplexHeld → Bool
can_be_held {order} k h = is_row_of k h.row && (nat_lt (length h.pending) k.rate && all_codes order h.pending)

-- a challenger over a domain d and a permutation's meaning p
module _ {D P : Type 0} {order : ℕ} {d : DomainGhosts D order} {p : PermutationGhosts P D order} where
  abbrev pub held_value : DuplexChallenger D P order d p → DuplexHeld
  held_value s = duplex_held (items s.sponge.row) (items s.pending) (items s.sponge.outputs)

  abbrev pub make : DuplexChallenger D P order d p → Parameters P
  make s = sponge_make s.sponge

  -- the arithmetic, the image, WIDTH and RATE
  abbrev pub make_meaning : DuplexChallenger D P order d p → SpongeMake order
  make_meaning s = sponge_make_meaning s.sponge

  -- a challenger just made: of this WIDTH, RATE and permutation, and it holds zeros and empty lists
  pub record IsFresh (width rate : ℕ) (permutation : P) (s : DuplexChallenger D P order d p) : Type 0 where
    pub make_is : make s ≡ parameters_of width rate permutation
    pub holds : held_value s ≡ fresh_value (make_meaning s)
