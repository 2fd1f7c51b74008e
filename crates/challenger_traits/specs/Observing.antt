-- Observing codes one by one, over what taking one leaves.
use Rattle.std.specs.Prelude.{ℕ, List, [], ◌∷◌, Ok, Err, Result, if◌then◌else◌}
use Rattle.refusal.specs.declared.Refusal.{Refusal}
use Rattle.refusal.specs.declared.Refusal.TheVariants.{NotCode}
use Rattle.domain.specs.Codes.{all_codes}

module _ {Held : Type 0} where
  -- the codes are taken in turn
  abbrev pub after_codes : (Held → ℕ → Held) → Held → List ℕ → Held
  after_codes after_code h [] = h
  after_codes after_code h (c ∷ cs) = after_codes after_code (after_code h c) cs

  -- what an observe leaves, or its refusal
  abbrev pub after_observe_codes : ℕ → (Held → ℕ → Held) → Held → List ℕ → Result Held Refusal
  after_observe_codes order after_code h xs = if all_codes order xs then Ok (after_codes after_code h xs) else Err NotCode
