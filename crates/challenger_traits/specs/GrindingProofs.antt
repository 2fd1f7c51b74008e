-- Proof only: what `first` finds, that a grind's witness passes a check in its place, and that it is the least.
use Rattle.std.specs.Prelude.{◌≡◌, ℕ, zero, suc, ◌+◌, ◌<◌, ◌≤◌, Bool, true, false, [], ◌∷◌, Ok, Err, Result, IfOk, IfErr, IsOk, ◌==◌, nat_le, nat_lt, refl}
use Rattle.std.proofs.Common.{sym, ap, subst, ◌∙◌, ⊎_elim, inl, inr, arith}
use Rattle.std.proofs.lemmas.Bool.{ltb-true, ltb-false, lt-ltb, le-ltb, le-leb, ne_eqb, cond-true, cond-false, cases_lt, cases_order, cond_both}
use Rattle.refusal.specs.declared.Refusal.{Refusal}
use Rattle.refusal.specs.declared.Refusal.TheVariants.{NoWitness}
use Rattle.challenger_traits.specs.Meaning.{Reply, reply, bits_fit}
use Rattle.challenger_traits.specs.Grinding.{Means, first, says_yes, CheckRefused, check_after_observe, check_of, accepts, search_reply, grind_of, NoneBelow, refused, passed, LeastWitness}

pub first_le : (p : ℕ → Bool) (n : ℕ) → first p n ≤ n
unfolding first
first_le p zero = omega arith
first_le p (suc n) =
    let ih = first_le p n in
    cond_both (nat_lt (first p n) n) _ _ (λ x. x ≤ suc n) (λ e. omega arith)
    (λ e. cond_both (p n) _ _ (λ x. x ≤ suc n) (λ f. omega arith) (λ f. omega arith))

pub first_below : (p : ℕ → Bool) (n k : ℕ) → k < first p n → p k ≡ false
unfolding first
first_below p zero k = λ h. let z : ⊥ = omega arith in absurd z
first_below p (suc n) k =
    cond_both (nat_lt (first p n) n) _ _ (λ x. k < x → p k ≡ false) (λ e. first_below p n k)
    (λ e.
    let le = ltb-false (first p n) n e in
    cond_both (p n) _ _ (λ x. k < x → p k ≡ false) (λ f h. first_below p n k (omega arith))
    (λ f h. ⊎_elim (λ lt. first_below p n k (omega arith)) (λ ge. let same : k ≡ n = omega arith in ap p same ∙ f) (cases_lt k n)))

pub first_holds : (p : ℕ → Bool) (n : ℕ) → first p n < n → p (first p n) ≡ true
unfolding first
first_holds p zero = λ h. let z : ⊥ = omega arith in absurd z
first_holds p (suc n) =
    cond_both (nat_lt (first p n) n) _ _ (λ x. x < suc n → p x ≡ true) (λ e h. first_holds p n (ltb-true (first p n) n e))
    (λ e. cond_both (p n) _ _ (λ x. x < suc n → p x ≡ true) (λ f h. f) (λ f h. let z : ⊥ = omega arith in absurd z))

-- nothing else has these marks
pub first_is : (p : ℕ → Bool) (n w : ℕ) → w < n → ((k : ℕ) → k < w → p k ≡ false) → p w ≡ true → first p n ≡ w
first_is p n w lt none holds =
    ⊎_elim (λ e. e)
    (⊎_elim
    (λ less. let z : false ≡ true = sym (none (first p n) less) ∙ first_holds p n (omega arith) in cc)
    (λ more. let z : false ≡ true = sym (first_below p n w more) ∙ holds in cc))
    (cases_order (first p n) w)

pub first-none : (p : ℕ → Bool) (n : ℕ) → ((k : ℕ) → k < n → p k ≡ false) → first p n ≡ n
first-none p n none =
    ⊎_elim
    (λ less. let z : false ≡ true = sym (none (first p n) less) ∙ first_holds p n less in cc)
    (λ ge. let le = first_le p n in omega arith)
    (cases_lt (first p n) n)

only_yes : (a : Result Bool Refusal) → says_yes a ≡ true → a ≡ Ok true
only_yes (Ok v) e = ap Ok e
only_yes (Err x) e = let z : ◌≡◌ {A = ℕ} 0 1 = cc in let y : ⊥ = omega arith in absurd y

module _ {Held : Type 0} (m : Means Held) where
  -- a check in a grind's place, by what the grind said: the witness passes and leaves the same; a refused grind moved nothing
  abbrev pub InPlace : Held → ℕ → Result (ℕ × ℕ) Refusal → Held → Type 0
  InPlace h b (Ok p) left = check_of m h b p.0 ≡ reply (Ok true) left
  InPlace h b (Err e) left = left ≡ h

  check_zero : (h : Held) (b w : ℕ) → bits_fit m.drawing.order b ≡ true → (b == 0) ≡ true → check_of m h b w ≡ reply (Ok true) h
  unfolding check_of
  check_zero h b w q z = cond-true _ _ _ q ∙ cond-true _ _ _ z

  accepted : (h : Held) (b w : ℕ) → accepts m h b w ≡ true → check_of m h b w ≡ reply (Ok true) (check_of m h b w).left
  accepted h b w e = ap (λ s. reply s (check_of m h b w).left) (only_yes (check_of m h b w).said e)

  pub grind_in_place : (h : Held) (b n : ℕ) → InPlace h b (grind_of m h b n).said (grind_of m h b n).left
  unfolding grind_of
  grind_in_place h b n =
      let P : Reply (Result (ℕ × ℕ) Refusal) Held → Type 0 = λ r. InPlace h b r.said r.left in
      let p = accepts m h b in
      cond_both (bits_fit m.drawing.order b) _ _ P
      (λ q. cond_both (b == 0) _ _ P
      (λ z. check_zero h b 0 q z)
      (λ z. cond_both (nat_le n m.drawing.order) _ _ P
      (λ l. cond_both (nat_lt (first p n) n) _ _ P
      (λ lt. accepted h b (first p n) (first_holds p n (ltb-true _ n lt)))
      (λ ge. refl))
      (λ l. refl)))
      (λ q. refl)

  -- so the witness of a passed grind passes
  passes-by : (h : Held) (b : ℕ) (s : Result (ℕ × ℕ) Refusal) (left : Held) → InPlace h b s left → IfOk s (λ p. check_of m h b p.0 ≡ reply (Ok true) left)
  passes-by h b (Ok p) left e = e
  passes-by h b (Err x) left e = tt

  pub ground-passes : (h : Held) (b n : ℕ) {r : Reply (Result (ℕ × ℕ) Refusal) Held} → grind_of m h b n ≡ r → IfOk r.said (λ p. check_of m h b p.0 ≡ reply (Ok true) r.left)
  ground-passes h b n {r} e =
      subst (λ (r : Reply (Result (ℕ × ℕ) Refusal) Held). IfOk r.said (λ p. check_of m h b p.0 ≡ reply (Ok true) r.left)) e
      (passes-by h b (grind_of m h b n).said (grind_of m h b n).left (grind_in_place h b n))

  -- where a code is observed, a check is refused for its bits or for a witness that is no code
  answered : (h : Held) (b w : ℕ) (r : Result Held Refusal) → IsOk r → IfErr (check_after_observe m r h b).said (CheckRefused m.drawing.order b w)
  answered h b w (Ok g) is = tt
  answered h b w (Err e) is = absurd cc

  pub check-refused : (h : Held) (b w : ℕ) → (w < m.drawing.order → IsOk (m.after_observe (m.check_start h) (w ∷ []))) → IfErr (check_of m h b w).said (CheckRefused m.drawing.order b w)
  unfolding check_of
  check-refused h b w taken =
      let P : Reply (Result Bool Refusal) Held → Type 0 = λ r. IfErr r.said (CheckRefused m.drawing.order b w) in
      cond_both (bits_fit m.drawing.order b) _ _ P
      (λ q. cond_both (b == 0) _ _ P
      (λ z. tt)
      (λ z. cond_both (nat_lt w m.drawing.order) _ _ P
      (λ l. answered h b w (m.after_observe (m.check_start h) (w ∷ [])) (taken (ltb-true w m.drawing.order l)))
      (λ l. inr (q, l, refl))))
      (λ q. inl (q, refl))

  module _ (h : Held) (b n : ℕ) (q : bits_fit m.drawing.order b ≡ true) (some : 1 ≤ b) (within : n ≤ m.drawing.order) where
    grind_searches : grind_of m h b n ≡ search_reply m h b n (first (accepts m h b) n)
    unfolding grind_of
    grind_searches =
        cond-true (bits_fit m.drawing.order b) _ _ q
        ∙ cond-false (b == 0) _ _ (ne_eqb b 0 (λ e. omega arith))
        ∙ cond-true (nat_le n m.drawing.order) _ _ (le-leb n m.drawing.order within)

    pub grind_found : (w : ℕ) → w < n → NoneBelow m h b w → accepts m h b w ≡ true → grind_of m h b n ≡ reply (Ok (w, w + 1)) (check_of m h b w).left
    grind_found w lt none holds =
        grind_searches ∙ ap (search_reply m h b n) (first_is (accepts m h b) n w lt none holds) ∙ cond-true (nat_lt w n) _ _ (lt-ltb w n lt)

    pub grind_spent : NoneBelow m h b n → grind_of m h b n ≡ reply (Err (NoWitness n)) h
    grind_spent none =
        grind_searches ∙ ap (search_reply m h b n) (first-none (accepts m h b) n none) ∙ cond-false (nat_lt n n) _ _ (le-ltb n n (omega arith))

  pub least-witness : (h : Held) (b n : ℕ) → LeastWitness m h b n (grind_of m h b n)
  least-witness h b n q some within =
      let p = accepts m h b in
      ⊎_elim
      (λ lt.
      let w = first p n in
      let none : NoneBelow m h b w = first_below p n in
      let holds = first_holds p n lt in
      passed w lt holds none (grind_found h b n q some within w lt none holds))
      (λ ge.
      let le = first_le p n in
      let none : NoneBelow m h b n = λ k lt. first_below p n k (omega arith) in
      refused none (grind_spent h b n q some within none))
      (cases_lt (first p n) n)
