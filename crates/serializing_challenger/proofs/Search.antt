-- A check on a transcript, and a grind by the transcript's search: what a check accepts is what the search tests.
use Rattle.std.proofs.Common.{◌≡◌, ℕ, ◌+◌, ◌-◌, ◌%◌, ◌^◌, ◌<◌, ◌≤◌, true, false, eqb, ltb, Some, None, Ok, Err, sym, ap, ◌∙◌, ⊎_elim, arith}
use Rattle.std.proofs.lemmas.Nat.{and_mask}
use Rattle.std.proofs.lemmas.Bool.{lt-ltb, le-ltb, ne_eqb, cond-true, cond-false, cases_lt}
use Rattle.refusal.specs.declared.Refusal.TheVariants.{NoWitness}
use Rattle.challenger_traits.specs.Meaning.{reply, bits_fit}
use Rattle.challenger_traits.specs.Grinding.{says_yes, check_of, check_after_observe, accepts, grind_of, NoneBelow}
use Rattle.challenger_traits.specs.GrindingProofs.{grind_found, grind_spent}
use Rattle.challenger_traits.proofs.Checks.{check_judged}
use Rattle.byte_transcript.specs.declared.trial.TheConstants.{MOST_CANDIDATES}
use Rattle.byte_transcript.specs.Transcript.{Transcript, le_bytes, after_bytes, word, after_word, passes, least_candidate, candidate_count}
use Rattle.byte_transcript.proofs.Sought.{found, missed}
use Rattle.serializing_challenger.specs.Rules.{means}
use Rattle.serializing_challenger.specs.RulesProofs.{after_observe_one}
use Rattle.refusal.specs.declared.limits.TheConstants.{GREATEST_SAMPLED_ORDER}

candidate_count_is : (n : ℕ) → n ≤ MOST_CANDIDATES → candidate_count n ≡ n
candidate_count_is n le =
    ⊎_elim
    (λ lt. cond-true (ltb n MOST_CANDIDATES) _ _ (lt-ltb n MOST_CANDIDATES lt))
    (λ ge. cond-false (ltb n MOST_CANDIDATES) _ _ (le-ltb n MOST_CANDIDATES ge) ∙ (let e : MOST_CANDIDATES ≡ n = omega arith in e))
    (cases_lt n MOST_CANDIDATES)

module _ {Held : Type 0} (order : ℕ) (m : Transcript Held) where
  module _ (h : Held) (b : ℕ) (q : bits_fit order b ≡ true) (some : 1 ≤ b) (roomy : 8 ≤ m.room (m.after_draw h)) where
    -- a check of a code: its four bytes are observed after the dropped byte, and a word is drawn
    pub check_is : (w : ℕ) → w < order
        → check_of (means order m) h b w ≡ reply (Ok (eqb (word m (after_bytes m (m.after_draw h) (le_bytes w)) % 2 ^ b) 0)) (after_word m (after_bytes m (m.after_draw h) (le_bytes w)))
    check_is w lt =
        check_judged (means order m) h b w q (ne_eqb b 0 (λ e. omega arith)) (lt-ltb w order lt)
        ∙ ap (λ o. check_after_observe (means order m) o h b) (after_observe_one order m (m.after_draw h) w lt (omega (arith, roomy)))

    accepts_is : (w : ℕ) → w < order → accepts (means order m) h b w ≡ passes m (m.after_draw h) (2 ^ b - 1) w
    accepts_is w lt =
        ap (λ r. says_yes r.said) (check_is w lt)
        ∙ ap (λ v. eqb v 0) (sym (and_mask (word m (after_bytes m (m.after_draw h) (le_bytes w))) b))

    module _ (n : ℕ) (within : n ≤ order) (small : order ≤ GREATEST_SAMPLED_ORDER) where
      none_accepted : (e : ℕ) → e ≤ n → ((k : ℕ) → k < e → passes m (m.after_draw h) (2 ^ b - 1) k ≡ false) → NoneBelow (means order m) h b e
      none_accepted e le none k lt = accepts_is k (omega arith) ∙ none k lt

      pub searched : (w : ℕ) → least_candidate m (m.after_draw h) n (2 ^ b - 1) ≡ Some w
          → (w < n) × (grind_of (means order m) h b n ≡ reply (Ok (w, w + 1)) (check_of (means order m) h b w).left)
      searched w e =
          let f = found m (m.after_draw h) n (2 ^ b - 1) (omega (arith, roomy)) w e in
          let all = candidate_count_is n (omega arith) in
          let lt : w < n = omega (arith, f.within, all) in
          (lt, grind_found (means order m) h b n q some within w lt (none_accepted w (omega arith) f.none) (accepts_is w (omega arith) ∙ f.passed))

      pub unfound : least_candidate m (m.after_draw h) n (2 ^ b - 1) ≡ None → grind_of (means order m) h b n ≡ reply (Err (NoWitness n)) h
      unfound e =
          let all = candidate_count_is n (omega arith) in
          let none = missed m (m.after_draw h) n (2 ^ b - 1) (omega (arith, roomy)) e in
          grind_spent (means order m) h b n q some within (none_accepted n (omega arith) (λ k lt. none k (omega (arith, all, lt))))

-- a search that began with k₁ and h₁, by a power p
pub sought_there : {Make Held : Type 0} (M : Make → Transcript Held) (k k₁ : Make) (h h₁ : Held) (b n p : ℕ) → k₁ ≡ k → h₁ ≡ (M k).after_draw h → p ≡ 2 ^ b
    → least_candidate (M k₁) h₁ n (p - 1) ≡ least_candidate (M k) ((M k).after_draw h) n (2 ^ b - 1)
sought_there M k k₁ h h₁ b n p e s q =
    ap (λ x. least_candidate (M x) h₁ n (p - 1)) e ∙ ap (λ x. least_candidate (M k) x n (p - 1)) s ∙ ap (λ x. least_candidate (M k) ((M k).after_draw h) n (x - 1)) q
