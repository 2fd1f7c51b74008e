-- Proof only, not to be read to believe a contract: each challenger in memory holds a value that can be held.
use Rattle.std.specs.Prelude.{ℕ, ◌*◌, nat_le, nat_lt, IsTrue}
use Rattle.std.proofs.Common.{ap, arith}
use Rattle.std.proofs.lemmas.Bool.{and_from, le-leb, lt-ltb}
use Rattle.domain.specs.declared.Domain.{Ghosts as DomainGhosts}
use Rattle.permutation.specs.declared.CryptographicPermutation.{Ghosts as PermutationGhosts}
use Rattle.sponge.specs.SpongeHeldProofs.{sponge_row_held}
use Rattle.packing.specs.Powers.{limbs}
use Rattle.multi_field_challenger.specs.declared.MultiField32Challenger.{MultiField32Challenger}
use Rattle.multi_field_challenger.specs.Holds.{is_pair, can_be_held, held_value, make_meaning}
use Rattle.multi_field_challenger.specs.SameProofs.{held_from}
use Rattle.refusal.specs.declared.limits.TheConstants.{GREATEST_SAMPLED_ORDER, LONGEST_BATCH}

module _ {F D P : Type 0} {sampled order : ℕ} {f : DomainGhosts F sampled} {d : DomainGhosts D order} {p : PermutationGhosts P D order} (s : MultiField32Challenger F D P sampled order f d p) where
  pair_in_memory : IsTrue (is_pair sampled order s.sponge.rate)
  pair_in_memory =
      and_from (nat_le sampled GREATEST_SAMPLED_ORDER) _ (le-leb sampled GREATEST_SAMPLED_ORDER s.packing.small)
      (and_from (nat_lt sampled order) _ (lt-ltb sampled order s.packing.less)
      (le-leb (limbs sampled order * s.sponge.rate) LONGEST_BATCH (omega (arith, s.batch, ap (λ n. n * s.sponge.rate) s.packing.sized))))

  pub in_memory : IsTrue (can_be_held sampled (make_meaning s) (held_value s))
  in_memory =
      held_from sampled (make_meaning s) (held_value s) (sponge_row_held s.sponge) pair_in_memory
      (omega (arith, s.room, ap (λ n. n * s.sponge.rate) s.packing.sized)) s.pending.codes
