-- Where a text is cut into its first word and the rest.
use Rattle.std.proofs.Common.{◌≡◌, ℕ, suc, false, eqb, List, [], ◌∷◌, ◌++◌, Some, None, refl, ap, suc-le-suc, zero-le}
use Rattle.std.proofs.lemmas.Bool.{ne_eqb}
use Rattle.std.specs.Str.Iter.{LacksByte}
use Rattle.script.specs.Words.{first_word, after_word}

later : (c : ℕ) (cs : List ℕ) → LacksByte 32 (c ∷ cs) → LacksByte 32 cs
later c cs h i l = h (suc i) (suc-le-suc l)

not_space : (c : ℕ) (cs : List ℕ) → LacksByte 32 (c ∷ cs) → eqb c 32 ≡ false
not_space c cs h = ne_eqb c 32 (h 0 (suc-le-suc zero-le))

pub no_space : (bs : List ℕ) → LacksByte 32 bs → (bs ≡ first_word bs) × (None ≡ after_word bs)
no_space [] h = (refl, refl)
no_space (c ∷ cs) h =
    let e = not_space c cs h in
    let r = no_space cs (later c cs h) in
    (rw e (ap (λ w. c ∷ w) r.0), rw e r.1)

pub at_space : (xs ys : List ℕ) → LacksByte 32 xs → (xs ≡ first_word (xs ++ (32 ∷ ys))) × (Some ys ≡ after_word (xs ++ (32 ∷ ys)))
at_space [] ys h = (refl, refl)
at_space (c ∷ cs) ys h =
    let e = not_space c cs h in
    let r = at_space cs ys (later c cs h) in
    (rw e (ap (λ w. c ∷ w) r.0), rw e r.1)
