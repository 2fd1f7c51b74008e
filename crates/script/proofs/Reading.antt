-- What a number, a name and a row of numbers are read as.
use Rattle.std.proofs.Common.{◌≡◌, ℕ, ◌^◌, ◌<◌, Bool, true, false, if◌then◌else◌, eqb, List, [], ◌∷◌, ◌++◌, length, Some, None, Ok, Err, Option, Result, refl, ap, inl, inr}
use Rattle.std.proofs.lemmas.Slice.Eq.{bytes_eq-Decides}
use Rattle.std.proofs.lemmas.Bool.{cond_both, cases_Bool, and_from, and_parts, lt-ltb, ltb-true}
use Rattle.std.specs.Result.{OkIff, MatchResult, IsErrAnd, result_ok}
use Rattle.std.specs.Str.Parse.{digits_value}
use Rattle.std.specs.Str.{all_ascii_digits, bytes_eq}
use Rattle.script.specs.Words.{first_word, after_word, begun, words, words_of, is_number, number_of}

pub not_same : (w k : List ℕ) → (w ≡ k → ⊥) → bytes_eq w k ≡ false
not_same w k h = elim (cases_Bool (bytes_eq w k)) [ inl e ↦ absurd (h ((bytes_eq-Decides w k).0 e)) | inr e ↦ e ]

-- `number`, from what `parse` answers
pub reads_number : {E : Type 0} (bs : List ℕ) (r : Result ℕ E) → OkIff r ((all_ascii_digits bs ≡ true) × (0 < length bs) × (digits_value 10 bs < 2 ^ 64)) (digits_value 10 bs) → result_ok r ≡ number_of bs
reads_number bs (Ok n) h =
    let yes' : is_number bs ≡ true = and_from _ _ (lt-ltb _ _ h.0.1) (and_from _ _ h.0.0 (lt-ltb _ _ h.0.2)) in
    rw yes' (ap Some h.1)
reads_number bs (Err e) h =
    cond_both (is_number bs) (Some (digits_value 10 bs)) None (λ o. None ≡ o)
    (λ t. let some = and_parts _ _ t in let rest = and_parts _ _ some.1 in absurd (h (rest.0, ltb-true _ _ some.0, ltb-true _ _ rest.1)))
    (λ _. refl)

-- another error in the place of an error
pub ok_kept : {T E F : Type 0} (Q : E → F → Type 0) (r : Result T E) (s : Result T F) → MatchResult r (λ x. s ≡ Ok x) (λ e. IsErrAnd s (Q e)) → result_ok s ≡ result_ok r
ok_kept Q (Ok x) s h = ap result_ok h
ok_kept Q (Err e) (Ok x) h = absurd h
ok_kept Q (Err e) (Err x) h = refl

-- the first word comes first
pub words-first : (t : List ℕ) → words t ≡ first_word t ∷ words_of (after_word t)
words-first [] = refl
words-first (c ∷ cs) = first (eqb c 32) (words-first cs)
  where
    first : (b : Bool) → words cs ≡ first_word cs ∷ words_of (after_word cs) → (if b then [] ∷ words cs else begun c (words cs)) ≡ (if b then [] else c ∷ first_word cs) ∷ words_of (if b then Some cs else after_word cs)
    first true h = refl
    first false h = ap (begun c) h

-- the numbers that were read, before those to come
abbrev pub onto : List ℕ → Option (List ℕ) → Option (List ℕ)
onto xs None = None
onto xs (Some ys) = Some (xs ++ ys)
