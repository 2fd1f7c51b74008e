-- Proof only, not to be read to believe a contract: where taking a code does the same to what can be held, so does observing codes.
use Rattle.std.specs.Prelude.{◌≡◌, ℕ, ◌<◌, Bool, true, ◌&&◌, List, [], ◌∷◌, Ok, Err, Result, IsOk, nat_lt, IsTrue, refl}
use Rattle.std.proofs.Common.{sym, ap, ◌∙◌, inl, inr}
use Rattle.std.proofs.lemmas.Bool.{and_parts, and_from, ltb-true, lt-ltb, cases_Bool, cond-true, cond-false}
use Rattle.refusal.specs.declared.Refusal.{Refusal}
use Rattle.refusal.specs.declared.Refusal.TheVariants.{NotCode}
use Rattle.domain.specs.Codes.{all_codes}
use Rattle.challenger_traits.specs.Observing.{after_codes, after_observe_codes}

module _ {Held : Type 0} (order : ℕ) (after_code : Held → ℕ → Held) where
  ok_is : {g h : Held} → ◌≡◌ {A = Result Held Refusal} (Ok g) (Ok h) → g ≡ h
  ok_is e = cc

  err_is : {x : Refusal} {h : Held} → ◌≡◌ {A = Result Held Refusal} (Err x) (Ok h) → ⊥
  err_is e = cc

  -- one code is observed
  pub code_taken : (h : Held) (c : ℕ) → c < order → IsOk (after_observe_codes order after_code h (c ∷ []))
  code_taken h c lt = rw (cond-true (nat_lt c order && true) (Ok (after_code h c)) (Err NotCode) (and_from (nat_lt c order) true (lt-ltb c order lt) refl)) refl

  -- a code leads from what can be held to what can be held
  module _ (can_be_held : Held → Bool) (held : (h : Held) (c : ℕ) → IsTrue (can_be_held h) → c < order → IsTrue (can_be_held (after_code h c))) where
    codes-held : (h : Held) (xs : List ℕ) → IsTrue (can_be_held h) → all_codes order xs ≡ true → IsTrue (can_be_held (after_codes after_code h xs))
    codes-held h [] ok codes = ok
    codes-held h (x ∷ xs) ok codes =
        let both = and_parts (nat_lt x order) (all_codes order xs) codes in
        codes-held (after_code h x) xs (held h x ok (ltb-true x order both.0)) both.1

    pub observe_codes-held : (h : Held) (xs : List ℕ) (g : Held) → IsTrue (can_be_held h) → after_observe_codes order after_code h xs ≡ Ok g → IsTrue (can_be_held g)
    observe_codes-held h xs g ok e =
        elim (cases_Bool (all_codes order xs)) [
          | inl t ↦ (let same : after_codes after_code h xs ≡ g = ok_is (sym (cond-true (all_codes order xs) _ _ t) ∙ e) in
              rw (sym same) (codes-held h xs ok t))
          | inr f ↦ absurd (err_is (sym (cond-false (all_codes order xs) _ _ f) ∙ e))
        ]

    -- and does the same as by another rule
    module _ (other : Held → ℕ → Held) (same : (h : Held) (c : ℕ) → IsTrue (can_be_held h) → c < order → after_code h c ≡ other h c) where
      codes-same : (h : Held) (xs : List ℕ) → IsTrue (can_be_held h) → all_codes order xs ≡ true → after_codes after_code h xs ≡ after_codes other h xs
      codes-same h [] ok codes = refl
      codes-same h (x ∷ xs) ok codes =
          let both = and_parts (nat_lt x order) (all_codes order xs) codes in
          let lt = ltb-true x order both.0 in
          codes-same (after_code h x) xs (held h x ok lt) both.1 ∙ ap (λ g. after_codes other g xs) (same h x ok lt)

      pub observe_codes-same : (h : Held) (xs : List ℕ) → IsTrue (can_be_held h) → after_observe_codes order after_code h xs ≡ after_observe_codes order other h xs
      observe_codes-same h xs ok =
          elim (cases_Bool (all_codes order xs)) [
            | inl t ↦ (cond-true (all_codes order xs) _ _ t ∙ ap Ok (codes-same h xs ok t) ∙ sym (cond-true (all_codes order xs) _ _ t))
            | inr f ↦ (cond-false (all_codes order xs) _ _ f ∙ sym (cond-false (all_codes order xs) _ _ f))
          ]
