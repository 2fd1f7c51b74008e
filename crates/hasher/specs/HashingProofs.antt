-- Proof only, not to be read to believe a contract: remainders modulo 256 are bytes.
use Rattle.std.specs.Prelude.{ℕ, zero, suc, ◌%◌, List, [], ◌∷◌, map}
use Rattle.std.proofs.Common.{arith}
use Rattle.hasher.specs.Hashing.{HasOnlyBytes}

pub bytes_mod : (xs : List ℕ) → HasOnlyBytes (map (λ x. x % 256) xs)
bytes_mod [] k lt = let z : ⊥ = omega arith in absurd z
bytes_mod (x ∷ xs) zero lt = omega arith
bytes_mod (x ∷ xs) (suc k) lt = bytes_mod xs k (omega arith)
