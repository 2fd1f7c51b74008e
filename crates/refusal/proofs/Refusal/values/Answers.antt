use Rattle.std.proofs.Common.{◌≡◌, ℕ, ◌≤◌, ◌⊎◌, List, [], ◌∷◌, length, take, set, sym, refl, ap, ◌∙◌, inl, inr, arith}
use Rattle.std.proofs.lemmas.List.{drop_all, drop-set-lt}
use Rattle.refusal.specs.declared.Refusal.{Refusal}
use Rattle.refusal.specs.declared.Refusal.TheVariants.{FieldOrderNotIncreasing, AbsorbLengthTagOverflow, ResamplingError}
use Rattle.refusal.specs.Numbers.{values}
use Rattle.refusal.proofs.Refusal.values.Goals as goal

-- the cases that carry two values
two_values : (s : Refusal) (a b : ℕ) → (s ≡ FieldOrderNotIncreasing a b) ⊎ ((s ≡ AbsorbLengthTagOverflow a b) ⊎ (s ≡ ResamplingError a b)) → a ∷ b ∷ [] ≡ values s
two_values s a b (inl e) = sym (ap values e)
two_values s a b (inr (inl e)) = sym (ap values e)
two_values s a b (inr (inr e)) = sym (ap values e)

first-set : (xs : List ℕ) (a : ℕ) → 1 ≤ length xs → take 1 (set xs 0 a) ≡ a ∷ []
first-set [] a h = absurd (omega arith)
first-set (x ∷ xs) a h = refl

pub returns-in-FieldOrderNotIncreasing : goal.returns-in-FieldOrderNotIncreasing
returns-in-FieldOrderNotIncreasing c =
    let e = two_values c.args.self.now c.in-FieldOrderNotIncreasing.a c.in-FieldOrderNotIncreasing.b c.in-FieldOrderNotIncreasing.is in
    record { count = ap length e; front = e; rest = sym (drop_all 2 c.args.out.now (omega arith)) }

pub returns-in-NoWitness : goal.returns-in-NoWitness
returns-in-NoWitness c =
    let e = c.in-NoWitness.is in
    record {
      count = sym (ap (λ s. length (values s)) e);
      front = first-set c.args.out.now c.in-NoWitness.a (omega arith) ∙ sym (ap values e);
      rest = drop-set-lt 1 c.args.out.now 0 c.in-NoWitness.a (omega arith);
    }
