-- Proof only, not to be read to believe a contract: a list of codes has only codes, and the other way.
use Rattle.std.specs.Prelude.{◌≡◌, ℕ, zero, suc, true, List, [], ◌∷◌, nat_lt, refl}
use Rattle.std.proofs.Common.{arith}
use Rattle.std.proofs.lemmas.Bool.{and_parts, and_from, ltb-true, lt-ltb}
use Rattle.domain.specs.Codes.{all_codes}
use Rattle.permutation.specs.Rows.{HasOnlyCodes}

pub all_codes-codes : (order : ℕ) (xs : List ℕ) → all_codes order xs ≡ true → HasOnlyCodes order xs
all_codes-codes order [] h k lt = absurd (omega arith)
all_codes-codes order (x ∷ xs) h zero lt = ltb-true x order (and_parts (nat_lt x order) (all_codes order xs) h).0
all_codes-codes order (x ∷ xs) h (suc k) lt = all_codes-codes order xs (and_parts (nat_lt x order) (all_codes order xs) h).1 k (omega arith)

pub codes-all_codes : (order : ℕ) (xs : List ℕ) → HasOnlyCodes order xs → all_codes order xs ≡ true
codes-all_codes order [] h = refl
codes-all_codes order (x ∷ xs) h = and_from (nat_lt x order) (all_codes order xs) (lt-ltb x order (h 0 (omega arith))) (codes-all_codes order xs (λ k lt. h (suc k) (omega arith)))
