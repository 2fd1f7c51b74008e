-- The verifier's run repeats the prover's, where a check stands in a grind's place and calls mean the same to both.
use Rattle.std.proofs.Common.{◌≡◌, ℕ, Bool, List, [], ◌∷◌, ◌++◌, Some, None, Option, sym, refl, ap, ◌∙◌, subst}
use Rattle.std.specs.Prelude.{IsTrue}
use Rattle.runs.specs.declared.call.Call.{Call}
use Rattle.runs.specs.declared.call.Call.TheVariants.{CheckWitness, Grind}
use Rattle.runs.specs.declared.answer.Answer.{Answer}
use Rattle.runs.specs.Runs.{Rule, Kind, grinding, other, kind, witness, Stands, ChecksStand, answers, value_after, CanBeHeldAlong, party, Run, for_grind, calls_instead, repeated_calls, Repeats, ended, again, checked, skipped, SameRules, Agree}

module _ {Held : Type 0} (can_be_held : Held → Bool) (rule other-rule : Rule Held) (stands : ChecksStand rule) (same : SameRules can_be_held rule other-rule) where
  -- the verifier, at h, makes the calls ds; the prover came to g
  record Follows (h g : Held) (cs : List Call) (xs : List Answer) (ds : List Call) : Type 0 where
    pub repeats : Repeats cs xs ds (answers other-rule h ds)
    pub same_held : value_after other-rule h ds ≡ g

  -- a grind, by its witness
  ground : (h : Held) (b n : ℕ) (a : Answer) (left g : Held) (cs : List Call) (xs : List Answer) (ds : List Call) → IsTrue (can_be_held h) → Follows left g cs xs ds
      → (o : Option ℕ) → witness a ≡ o → Stands rule h b o left → Follows h g (Grind b n ∷ cs) (a ∷ xs) (for_grind b o ++ ds)
  ground h b n a left g cs xs ds ok f (Some w) e s =
      let there = sym (same h (CheckWitness b w) ok) ∙ s in
      record {
        repeats = subst (Repeats (Grind b n ∷ cs) (a ∷ xs) (CheckWitness b w ∷ ds)) (sym (ap (λ r. r.said ∷ answers other-rule r.left ds) there)) (checked b n w a e f.repeats);
        same_held = ap (λ r. value_after other-rule r.left ds) there ∙ f.same_held;
      }
  ground h b n a left g cs xs ds ok f None e s = record {
    repeats = skipped b n a e (subst (λ x. Repeats cs xs ds (answers other-rule x ds)) s f.repeats);
    same_held = sym (ap (λ x. value_after other-rule x ds) s) ∙ f.same_held;
  }

  -- one call more, by its kind
  one : (h g : Held) {c : Call} (cs : List Call) (xs : List Answer) (ds : List Call) → IsTrue (can_be_held h) → Follows (rule h c).left g cs xs ds
      → (k : Kind c) → kind c ≡ k → Follows h g (c ∷ cs) ((rule h c).said ∷ xs) (calls_instead k (rule h c).said ++ ds)
  one h g cs xs ds ok f (grinding b n) e = ground h b n _ _ g cs xs ds ok f (witness (rule h (Grind b n)).said) refl (stands h b n)
  one h g cs xs ds ok f (other c) e =
      let there = sym (same h c ok) in
      record {
        repeats = subst (Repeats (c ∷ cs) ((rule h c).said ∷ xs) (c ∷ ds)) (sym (ap (λ r. r.said ∷ answers other-rule r.left ds) there)) (again c _ e f.repeats);
        same_held = ap (λ r. value_after other-rule r.left ds) there ∙ f.same_held;
      }

  follows : (h : Held) (cs : List Call) → CanBeHeldAlong rule can_be_held h cs → Follows h (value_after rule h cs) cs (answers rule h cs) (repeated_calls cs (answers rule h cs))
  follows h [] ok = record { repeats = ended; same_held = refl }
  follows h (c ∷ cs) ok = one h _ cs _ _ ok.0 (follows (rule h c).left cs ok.1) (kind c) refl

  -- a run, and the run that repeats it from the same value
  pub agreement : (p₀ v₀ p₁ v₁ : Held) (cs : List Call) (xs ys : List Answer) → Run rule cs (party p₀ xs p₁) → CanBeHeldAlong rule can_be_held p₀ cs
      → Run other-rule (repeated_calls cs xs) (party v₀ ys v₁) → p₀ ≡ v₀ → Agree cs (party p₀ xs p₁) (party v₀ ys v₁)
  agreement p₀ v₀ p₁ v₁ cs xs ys proves along verifies e =
      let f = follows p₀ cs along in
      let there : repeated_calls cs (answers rule p₀ cs) ≡ repeated_calls cs xs = ap (repeated_calls cs) (sym proves.said) in
      let said : answers other-rule p₀ (repeated_calls cs xs) ≡ ys = ap (λ h. answers other-rule h (repeated_calls cs xs)) e ∙ sym verifies.said in
      let left : value_after other-rule p₀ (repeated_calls cs xs) ≡ v₁ = ap (λ h. value_after other-rule h (repeated_calls cs xs)) e ∙ sym verifies.left in
      record {
        repeats = subst (Repeats cs xs (repeated_calls cs xs)) said
            (subst (λ zs. Repeats cs zs (repeated_calls cs zs) (answers other-rule p₀ (repeated_calls cs zs))) (sym proves.said) f.repeats);
        same_held = sym left ∙ sym (ap (value_after other-rule p₀) there) ∙ f.same_held ∙ sym proves.left;
      }
