use Rattle.std.proofs.Common.{◌≡◌, refl, ◌∙◌}
use Rattle.keccak_spec.specs.Keccak.{θ, offsets, ρπ, χ, round, constants, keccak_f}
use Rattle.sha3.specs.Sha3.{state_with_block, state_after_block, padded_message, digest_of_state, sha3_256}
use Rattle.sha3.specs.Example.{abc, abc_digest}
use Rattle.sha3.proofs.hash_abc.Goals as goal

-- the example, by computation
computed : sha3_256 abc ≡ abc_digest
unfolding θ offsets ρπ χ round constants keccak_f state_with_block state_after_block padded_message digest_of_state sha3_256
computed = refl

pub returns : goal.returns
returns c = record { definition = c.hash.ensures; example = c.hash.ensures ∙ computed }
