-- Proof only, not to be read to believe a contract: SHA-256 obeys what every hash function obeys.
use Rattle.std.specs.Prelude.{ℕ, ◌/◌, ◌^◌, List, [], ◌∷◌, ◌++◌, fold, refl}
use Rattle.std.proofs.Common.{arith}
use Rattle.hasher.specs.Hashing.{IsHashFunction}
use Rattle.hasher.specs.HashingProofs.{bytes_mod}
use Rattle.sha256.specs.declared.Words.{Words}
use Rattle.sha256.specs.Sha256.{H0, blocks, padded_message, next_hash_value, bytes, sha256}

-- a word's bytes, before they are cut
abbrev shifts : ℕ → List ℕ
shifts x = (x / 2 ^ 24) ∷ (x / 2 ^ 16) ∷ (x / 2 ^ 8) ∷ x ∷ []

pub sha256_hashing : IsHashFunction 32 sha256
unfolding sha256 bytes
sha256_hashing =
    record {
      some = omega arith;
      most = omega arith;
      size = λ m. refl;
      bytes =
          λ m.
          let s : Words = fold next_hash_value H0 (blocks (padded_message m)) in
          bytes_mod (shifts s.a ++ shifts s.b ++ shifts s.c ++ shifts s.d ++ shifts s.e ++ shifts s.f ++ shifts s.g ++ shifts s.h);
    }
