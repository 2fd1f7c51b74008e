-- A block observed by a challenger: one turn comes, at the latest when a sample is asked for.
use Rattle.std.proofs.Common.{◌≡◌, ℕ, ◌+◌, ◌<◌, true, eqb, List, [], ◌∷◌, ◌++◌, length, refl, ap, ◌∙◌, append_assoc, arith}
use Rattle.std.proofs.lemmas.List.{length-append}
use Rattle.std.proofs.lemmas.Bool.{eqb-true}
use Rattle.challenger_traits.specs.Observing.{after_codes}
use Rattle.separation.specs.Blocks.{is_list_of_codes}
use Rattle.separation.proofs.BlockKinds.{list_some, list_few}

-- codes that are taken in turn by `after_code`, where `hold` is what is held while they are pending: with the last of them comes the row `turned`
module _ {Held : Type 0} (order most : ℕ) (after_code : Held → ℕ → Held) (hold : List ℕ → Held) (row : Held → List ℕ) (turned : List ℕ → List ℕ)
    (waits : (xs : List ℕ) (c : ℕ) → length xs + 1 < most → after_code (hold xs) c ≡ hold (xs ++ (c ∷ [])))
    (ends : (xs : List ℕ) (c : ℕ) → is_list_of_codes order most (xs ++ (c ∷ [])) ≡ true → row (after_code (hold xs) c) ≡ turned (xs ++ (c ∷ []))) where
  observed_after : (xs : List ℕ) (c : ℕ) (cs : List ℕ) → is_list_of_codes order most (xs ++ (c ∷ cs)) ≡ true → row (after_codes after_code (hold xs) (c ∷ cs)) ≡ turned (xs ++ (c ∷ cs))
  observed_after xs c [] h = ends xs c h
  observed_after xs c (e ∷ es) h =
      let few = list_few order most (xs ++ (c ∷ (e ∷ es))) h in
      let same : (xs ++ (c ∷ [])) ++ (e ∷ es) ≡ xs ++ (c ∷ (e ∷ es)) = append_assoc xs (c ∷ []) (e ∷ es) in
      ap (λ (g : Held). row (after_codes after_code g (e ∷ es))) (waits xs c (omega (arith, few, length-append xs (c ∷ (e ∷ es)))))
      ∙ observed_after (xs ++ (c ∷ [])) e es (rw same h) ∙ ap turned same

  pub observed : (xs : List ℕ) → is_list_of_codes order most xs ≡ true → row (after_codes after_code (hold []) xs) ≡ turned xs
  observed [] h = absurd (omega (arith, list_some order most [] h))
  observed (c ∷ cs) h = observed_after [] c cs h

pub none_of : (xs : List ℕ) → eqb (length xs) 0 ≡ true → xs ≡ []
none_of [] h = refl
none_of (x ∷ xs) h = absurd (omega (arith, eqb-true (length (x ∷ xs)) 0 h))
