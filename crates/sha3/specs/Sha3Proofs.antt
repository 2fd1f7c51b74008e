-- Proof only, not to be read to believe a contract: SHA3-256 obeys what every hash function obeys.
use Rattle.std.specs.Prelude.{ℕ, ◌/◌, ◌^◌, List, [], ◌∷◌, ◌++◌, replicate, fold, slice_index, refl}
use Rattle.std.proofs.Common.{arith}
use Rattle.hasher.specs.Hashing.{IsHashFunction}
use Rattle.hasher.specs.HashingProofs.{bytes_mod}
use Rattle.sha3.specs.Sha3.{blocks, padded_message, state_after_block, digest_of_state, sha3_256}

-- a lane's bytes, before they are cut
abbrev shifts : ℕ → List ℕ
shifts x = x ∷ (x / 2 ^ 8) ∷ (x / 2 ^ 16) ∷ (x / 2 ^ 24) ∷ (x / 2 ^ 32) ∷ (x / 2 ^ 40) ∷ (x / 2 ^ 48) ∷ (x / 2 ^ 56) ∷ []

pub sha3_hashing : IsHashFunction 32 sha3_256
unfolding sha3_256 digest_of_state
sha3_hashing =
    record {
      some = omega arith;
      most = omega arith;
      size = λ m. refl;
      bytes =
          λ m.
          let a : List ℕ = fold state_after_block (replicate 25 0) (blocks (padded_message m)) in
          bytes_mod (shifts (slice_index a 0) ++ shifts (slice_index a 1) ++ shifts (slice_index a 2) ++ shifts (slice_index a 3));
    }
