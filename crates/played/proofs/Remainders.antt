-- Numbers below 256 are their remainders by 256.
use Rattle.std.proofs.Common.{◌≡◌, ℕ, ◌%◌, true, List, [], ◌∷◌, map, refl, mod-eq_of_lt}
use Rattle.std.proofs.lemmas.Bool.{and_parts, ltb-true}
use Rattle.domain.specs.Codes.{all_codes}

pub all_same : (xs : List ℕ) → all_codes 256 xs ≡ true → map (λ x. x % 256) xs ≡ xs
all_same [] h = refl
all_same (x ∷ xs) h =
    let both = and_parts _ _ h in
    let first : x % 256 ≡ x = mod-eq_of_lt (ltb-true x 256 both.0) in
    rw (first, all_same xs both.1) refl
