-- A check from its parts, and a grind by its outcome.
use Rattle.std.proofs.Common.{◌≡◌, ℕ, Bool, true, false, eqb, ltb, [], ◌∷◌, Result, sym, ap, ◌∙◌, subst}
use Rattle.std.proofs.lemmas.Bool.{cond-true, cond-false}
use Rattle.refusal.specs.declared.Refusal.{Refusal}
use Rattle.challenger_traits.specs.Meaning.{Reply, reply, Does, bits_fit}
use Rattle.challenger_traits.specs.Grinding.{Means, check_of, grind_of, check_after_observe, LeastWitness}
use Rattle.challenger_traits.specs.GrindingProofs.{least-witness}

-- a call does what its rule says, if the rule gives what was said and is held
pub does_by : {Self Make Held Said : Type 0} {make : Self → Make} {held_value : Self → Held} {before after : Self} {said : Said} {rule : Reply Said Held}
    → rule ≡ reply said (held_value after) → make after ≡ make before → Does make held_value before after said rule
does_by e k = record { answer = sym (ap (λ r. r.said) e); state = sym (ap (λ r. r.left) e); same_make = k }

-- and the other way
pub did : {Self Make Held Said : Type 0} {make : Self → Make} {held_value : Self → Held} {before after : Self} {said : Said} {rule : Reply Said Held}
    → Does make held_value before after said rule → rule ≡ reply said (held_value after)
did {held_value = held_value} {after = after} {rule = rule} d = ap (λ s. reply s rule.left) (sym d.answer) ∙ ap (reply _) (sym d.state)

-- what the question on bits was answered, of the order that was read
pub asked : {o order : ℕ} {v : Bool} (b : ℕ) → o ≡ order → v ≡ bits_fit o b → bits_fit order b ≡ v
asked b e q = ap (λ x. bits_fit x b) (sym e) ∙ sym q

module _ {Held : Type 0} (m : Means Held) (h : Held) (b n : ℕ) where
  module _ (q : bits_fit m.drawing.order b ≡ true) where
    pub check_judged : eqb b 0 ≡ false → ltb n m.drawing.order ≡ true → check_of m h b n ≡ check_after_observe m (m.after_observe (m.check_start h) (n ∷ [])) h b
    unfolding check_of
    check_judged z l = cond-true _ _ _ q ∙ cond-false _ _ _ z ∙ cond-true _ _ _ l

-- what a grind said and left is the least witness, if it is what the rule gives
pub ground_by : {Held : Type 0} (m : Means Held) (h : Held) (b n : ℕ) {r : Reply (Result (ℕ × ℕ) Refusal) Held} → grind_of m h b n ≡ r → LeastWitness m h b n r
ground_by m h b n e = subst (LeastWitness m h b n) e (least-witness m h b n)
