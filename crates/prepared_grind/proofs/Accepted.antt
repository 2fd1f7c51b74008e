-- What a check accepts, where a witness is taken as a code and bits are the low bits of one value drawn.
use Rattle.std.proofs.Common.{◌≡◌, ℕ, ◌%◌, ◌^◌, ◌<◌, ◌≤◌, true, ◌&&◌, eqb, ltb, refl, ap, ◌∙◌, arith}
use Rattle.std.proofs.lemmas.Bool.{lt-ltb, ne_eqb, cond-true, and_from}
use Rattle.challenger_traits.specs.Meaning.{Reply, bits_fit}
use Rattle.challenger_traits.specs.Grinding.{Means, says_yes, accepts, check_after_observe}
use Rattle.challenger_traits.proofs.Checks.{check_judged}
use Rattle.challenger_traits.specs.Observing.{after_observe_codes}
use Rattle.sampling.specs.Draws.{bits_drawing}

module _ {Held : Type 0} (order : ℕ) (after_code : Held → ℕ → Held) (drawn_value : Held → Reply ℕ Held) where
  -- a check that starts where it stands
  abbrev pub means : Means Held
  means = record { after_observe = after_observe_codes order after_code; drawing = bits_drawing drawn_value order; check_start = λ h. h }

  pub accepts_is : (h : Held) (b w : ℕ) → bits_fit order b ≡ true → 1 ≤ b → w < order → accepts means h b w ≡ eqb ((drawn_value (after_code h w)).said % 2 ^ b) 0
  accepts_is h b w q some lt =
      ap (λ r. says_yes r.said)
      (check_judged means h b w q (ne_eqb b 0 (λ e. omega arith)) (lt-ltb w order lt)
      ∙ ap (λ o. check_after_observe means o h b) (cond-true (ltb w order && true) _ _ (and_from (ltb w order) true (lt-ltb w order lt) refl)))
