-- One block of words more.
use Rattle.std.proofs.Common.{◌≡◌, ℕ, ◌+◌, List, sym, ap, ◌∙◌, add-one}
use Rattle.domain.specs.declared.Domain.{Ghosts as DomainGhosts}
use Rattle.permutation.specs.declared.CryptographicPermutation.{Ghosts as PermutationGhosts}
use Rattle.sponge.specs.declared.Sponge.{Sponge}
use Rattle.sponge.specs.Sponge.{SpongeMake, SpongeState}
use Rattle.sponge.specs.SpongeHeld.{make_meaning, SameMake}
use Rattle.packing.specs.Packing.{group}
use Rattle.multi_field_blocks.specs.Blocks.{words_block_turn, after_groups}

-- sponges of one permutation, width and rate are of one make
pub same_making : {D P : Type 0} {order : ℕ} {d : DomainGhosts D order} {p : PermutationGhosts P D order} {s t : Sponge D P order d p} → SameMake s t → make_meaning s ≡ make_meaning t
same_making e = simp (e.permutation, e.width, e.rate)

module _ {order : ℕ} (k : SpongeMake order) where
  -- one block of words more
  pub block_more : (s t new : SpongeState) (ws piece : List ℕ) (i : ℕ) → t ≡ after_groups k s ws i
      → piece ≡ group k.rate ws i → new ≡ words_block_turn k t.row piece → new ≡ after_groups k s ws (i + 1)
  block_more s t new ws piece i e p n =
      n ∙ ap (λ (x : SpongeState). words_block_turn k x.row piece) e
      ∙ ap (words_block_turn k (after_groups k s ws i).row) p ∙ sym (ap (after_groups k s ws) (add-one i))
