-- The hash function that a value chooses, and the law that it obeys.
use Rattle.std.specs.Prelude.{ℕ, List}
use Rattle.hasher.specs.Hashing.{IsHashFunction}
use Rattle.sha256.specs.Sha256.{sha256}
use Rattle.sha256.specs.Sha256Proofs.{«sha256_hashing»}
use Rattle.sha3.specs.Sha3.{«sha3_256»}
use Rattle.sha3.specs.Sha3Proofs.{«sha3_hashing»}
use Rattle.hashers.specs.declared.Hasher.{Hasher}
use Rattle.hashers.specs.declared.Hasher.TheVariants.{Sha256, Sha3_256}

abbrev pub digest_of : Hasher → List ℕ → List ℕ
digest_of Sha256 = sha256
digest_of Sha3_256 = «sha3_256»

abbrev pub hashing_of : (h : Hasher) → IsHashFunction 32 (digest_of h)
hashing_of Sha256 = «sha256_hashing»
hashing_of Sha3_256 = «sha3_hashing»
