-- Codes.
use Rattle.std.specs.Prelude.{ℕ, Bool, true, ◌&&◌, List, [], ◌∷◌, nat_lt}

-- is every number a code?
abbrev pub all_codes : ℕ → List ℕ → Bool
all_codes order [] = true
all_codes order (x ∷ xs) = nat_lt x order && all_codes order xs
