-- What a turn makes of a sponge.
use Rattle.std.proofs.Common.{◌≡◌, ℕ, ◌<◌, ◌≤◌, List, length, arith}
use Rattle.std.proofs.lemmas.List.{length-take-le}
use Rattle.domain.specs.declared.Domain.{Ghosts as DomainGhosts}
use Rattle.permutation.specs.declared.CryptographicPermutation.{Ghosts as PermutationGhosts}
use Rattle.permutation.specs.Rows.{IsRow}
use Rattle.buffer.specs.Items.{items}
use Rattle.buffer.proofs.Facts.{items-length}
use Rattle.sponge.specs.declared.Sponge.{Sponge}
use Rattle.sponge.specs.Sponge.{row_with_block, block_turn}
use Rattle.sponge.specs.SpongeHeld.{make_meaning}
use Rattle.sponge.specs.AbsorbingProofs.{Words, row_with_block-row, row_with_block-length}
use Rattle.refusal.specs.declared.limits.TheConstants.{WIDEST_RATE}

module _ {D P : Type 0} {order : ℕ} {d : DomainGhosts D order} {p : PermutationGhosts P D order} (s : Sponge D P order d p) where
  pub sponge_row : IsRow order (items s.row)
  sponge_row = record {
    wide = omega (arith, s.some, s.wide, s.sized);
    bounded = omega (arith, items-length s.row, s.row.within);
    codes = s.row.codes;
  }

  pub rate_inside : s.rate < length (items s.row)
  rate_inside = omega (arith, s.wide, s.sized)

  pub rate_small : s.rate ≤ WIDEST_RATE
  rate_small = omega (arith, rate_inside, items-length s.row, s.row.within)

  -- the number of a block's words is a code
  pub length_code : (n : ℕ) → n ≤ s.rate → n < order
  length_code n few = omega (arith, few, rate_small, d.arithmetic.low)

  -- the outputs of a block's turn fill the rate
  pub block-full : (words : List ℕ) (tag : ℕ) → Words order s.rate words → tag < order → length (block_turn (make_meaning s) (items s.row) words tag).outputs ≡ s.rate
  block-full words tag w tagged =
      let k = make_meaning s in
      let row = row_with_block-row k (items s.row) sponge_row rate_inside words tag w tagged in
      let kept = (p.lawful s.permutation).keeps_length (row_with_block k (items s.row) words tag) row in
      length-take-le s.rate (k.image (row_with_block k (items s.row) words tag)) (omega (arith, kept, row_with_block-length k (items s.row) sponge_row rate_inside words tag w.few, rate_inside))
