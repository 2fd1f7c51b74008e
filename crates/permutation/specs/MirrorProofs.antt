-- Proof only, not to be read to believe a contract: the reversal of rows is lawful.
use Rattle.std.specs.Prelude.{◌≡◌, ℕ, ◌-◌, ◌<◌, List, reverse, length}
use Rattle.std.proofs.Common.{sym, ap, ◌∙◌, arith}
use Rattle.std.proofs.lemmas.List.{reverse-reverse, length-reverse, get_or-reverse}
use Rattle.permutation.specs.Rows.{HasOnlyCodes, IsLawful}

reverse-codes : (order : ℕ) (xs : List ℕ) → HasOnlyCodes order xs → HasOnlyCodes order (reverse xs)
reverse-codes order xs h k lt =
    let lt' : k < length xs = omega (arith, length-reverse xs) in
    rw (get_or-reverse xs k 0 lt') (h (length xs - 1 - k) (omega arith))

reverse_injective : (xs ys : List ℕ) → reverse xs ≡ reverse ys → xs ≡ ys
reverse_injective xs ys e = sym (reverse-reverse xs) ∙ ap reverse e ∙ reverse-reverse ys

pub mirror_lawful : (order : ℕ) → IsLawful order reverse
mirror_lawful order = record {
  keeps_length = λ xs _. length-reverse xs;
  keeps_codes = λ xs row. reverse-codes order xs row.codes;
  injective = λ xs ys _ _ _ e. reverse_injective xs ys e;
}
