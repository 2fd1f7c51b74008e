-- A refusal in words, as bytes.
use Rattle.std.specs.Prelude.{ℕ, List, [], ◌∷◌, ◌++◌, codes, decimal}
use Rattle.refusal.specs.declared.Refusal.{Refusal}
use Rattle.refusal.specs.Numbers.{number, values}

-- numbers in decimal, a space between two
abbrev pub spaced_numbers : List ℕ → List ℕ
spaced_numbers [] = []
spaced_numbers (n ∷ []) = decimal n
spaced_numbers (n ∷ m ∷ ns) = decimal n ++ (codes " " ++ spaced_numbers (m ∷ ns))

abbrev pub refusal_words : Refusal → List ℕ
refusal_words e = codes "no " ++ spaced_numbers (number e ∷ values e)
