-- The two ends of a transcript.
use Rattle.std.specs.Prelude.{◌≡◌, ℕ, Bool, List, ◌++◌, IsTrue}
use Rattle.challenger_traits.specs.Meaning.{Reply}
use Rattle.agreement.specs.declared.ends.Ends.{Ends}

-- a challenger C, with what making it fixed and what it holds
module _ {C Make Held : Type 0} (make : C → Make) (held : C → Held) where
  -- both ends are of the make k and hold h
  pub record Both (k : Make) (h : Held) (ends : Ends C) : Type 0 where
    pub prover_make : make ends.prover ≡ k
    pub prover_held : held ends.prover ≡ h
    pub verifier_make : make ends.verifier ≡ k
    pub verifier_held : held ends.verifier ≡ h

  -- lines were played on both ends: the two agree, this was written, and both are left with this
  pub record PlayedOn (k : Make) (r : Reply (List ℕ) Held) (before after : List ℕ) (ends : Ends C) (alike : Bool) : Type 0 where
    pub agree : IsTrue alike
    pub wrote : after ≡ before ++ r.said
    pub both : Both k r.left ends
