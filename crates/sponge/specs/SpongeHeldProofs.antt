-- Proof only, not to be read to believe a contract: each sponge in memory holds a row that can be held.
use Rattle.std.specs.Prelude.{◌≡◌, ℕ, length, IsTrue}
use Rattle.std.proofs.Common.{arith, length-take-le}
use Rattle.domain.specs.declared.Domain.{Ghosts as DomainGhosts}
use Rattle.permutation.specs.declared.CryptographicPermutation.{Ghosts as PermutationGhosts}
use Rattle.buffer.specs.Items.{items}
use Rattle.sponge.specs.declared.Sponge.{Sponge}
use Rattle.sponge.specs.SpongeHeld.{make_meaning}
use Rattle.sponge.specs.SameSponge.{is_row_of}
use Rattle.sponge.specs.SameSpongeProofs.{held_row}

module _ {D P : Type 0} {order : ℕ} {d : DomainGhosts D order} {p : PermutationGhosts P D order} (s : Sponge D P order d p) where
  row-count : length (items s.row) ≡ s.row.count
  row-count = length-take-le s.row.count s.row.cells (omega (arith, s.row.sized, s.row.within))

  pub sponge_row_held : IsTrue (is_row_of (make_meaning s) (items s.row))
  sponge_row_held = held_row (make_meaning s) (items s.row) s.some s.wide s.sized s.row.codes (omega (arith, s.sized, row-count, s.row.within))
