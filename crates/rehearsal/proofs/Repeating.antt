-- What the verifier calls in the place of one call, and what it is answered, by the law of agreement.
use Rattle.std.proofs.Common.{◌≡◌, ℕ, zero, suc, Bool, true, false, List, [], ◌∷◌, Some, None, Option, length, take, get_or, refl, sym, ap, ◌∙◌, subst, arith}
use Rattle.std.proofs.lemmas.List.{append-nil}
use Rattle.std.specs.Option.{option_map}
use Rattle.runs.specs.declared.call.Call.{Call}
use Rattle.runs.specs.declared.call.Call.TheVariants.{CheckWitness, Grind}
use Rattle.runs.specs.declared.answer.Answer.{Answer}
use Rattle.runs.specs.declared.answer.Answer.TheVariants.{Checked}
use Rattle.runs.specs.Runs.{Kind, grinding, other, kind, witness, calls_instead, repeated_calls, Repeats, ended, again, checked, skipped, as_list}
use Rattle.rehearsal.specs.Tables.{as_grind, again_of, wanted_of, wanted}
use Rattle.rehearsal.specs.Tables.{again as again_told}

-- a value that is none is not some
some_none : {A : Type 0} (x : A) → None ≡ Some x → ⊥
some_none {A = A} x e = let z : ◌≡◌ {A = List A} [] (x ∷ []) = ap as_list e in cc

check_said : (b : ℕ) (o : Option ℕ) (p : Call × Answer) → option_map (λ w. (CheckWitness b w, Checked true)) o ≡ Some p → p.1 ≡ Checked true
check_said b None p e = absurd (some_none p e)
check_said b (Some w) p e = cc

wanted_by : (o : Option (ℕ × ℕ)) (c : Call) (a : Answer) (p : Call × Answer) → again_of o c a ≡ Some p → p.1 ≡ wanted_of o a
wanted_by None c a p e = cc
wanted_by (Some g) c a p e = check_said g.0 (witness a) p e

pub wanted_is : (c : Call) (a : Answer) (p : Call × Answer) → again_told c a ≡ Some p → p.1 ≡ wanted c a
wanted_is c a p e = wanted_by (as_grind c) c a p e

-- a call of another kind is no grind
abbrev is_grinding : {c : Call} → Kind c → Bool
is_grinding (grinding b n) = true
is_grinding (other c) = false

no_grind : (c : Call) → kind c ≡ other c → as_grind c ≡ None
no_grind (Grind b n) e = let z : true ≡ false = ap is_grinding e in absurd cc
no_grind _ e = refl

-- what the verifier called, by its first call and its first answer, is what again tells of the prover's call
abbrev Told : Call → Answer → List Call → List Answer → Type 0
Told c a [] ys = None ≡ again_told c a
Told c a (d ∷ ds) [] = ⊥
Told c a (d ∷ ds) (y ∷ ys) = Some (d, y) ≡ again_told c a

grind_told : (c : Call) (b n : ℕ) (a : Answer) (o : Option ℕ) → c ≡ Grind b n → witness a ≡ o → option_map (λ w. (CheckWitness b w, Checked true)) o ≡ again_told c a
grind_told c b n a o e w = sym (ap (λ x. again_told x a) e ∙ ap (option_map (λ w. (CheckWitness b w, Checked true))) w)

-- the rest of one call is none
rest_none : {cs : List Call} {xs : List Answer} {ds : List Call} {ys : List Answer} → Repeats cs xs ds ys → cs ≡ [] → ds ≡ []
rest_none ended e = refl
rest_none (again c a k r) e = absurd cc
rest_none (checked b n w a k r) e = absurd cc
rest_none (skipped b n a k r) e = absurd cc

one_told : {cs : List Call} {xs : List Answer} {ds : List Call} {ys : List Answer} → Repeats cs xs ds ys → (c : Call) (a : Answer) → cs ≡ c ∷ [] → xs ≡ a ∷ [] → Told c a ds ys
one_told ended c a e f = absurd cc
one_told (again d x k r) c a e f =
    let same : d ≡ c = cc in
    let said : x ≡ a = cc in
    rw (said, same) (sym (ap (λ g. again_of g c a) (no_grind c (rw (sym same) k))))
one_told (checked b n w x k r) c a e f =
    let same : Grind b n ≡ c = cc in
    let said : x ≡ a = cc in
    grind_told c b n a (Some w) (sym same) (ap witness (sym said) ∙ k)
one_told (skipped b n x {cs = cs} {ds = ds} k r) c a e f =
    let same : Grind b n ≡ c = cc in
    let said : x ≡ a = cc in
    let none : cs ≡ [] = cc in
    let rest : ds ≡ [] = rest_none r none in
    rw rest (grind_told c b n a None (sym same) (ap witness (sym said) ∙ k))

told_by : (c : Call) (a : Answer) (o : Option Call) (n : ℕ) (zs : List Answer) (d : Answer) → Told c a (as_list o) (take n zs) → option_map (λ r. (r, get_or zs 0 d)) o ≡ again_told c a
told_by c a None n zs d t = t
told_by c a (Some r) zero zs d t = absurd t
told_by c a (Some r) (suc n) [] d t = absurd t
told_by c a (Some r) (suc n) (z ∷ zs) d t = t

-- one call was made, o was called in its place, and the verifier's first answer stands in zs
pub called_told : (c : Call) (xs zs : List Answer) (n : ℕ) (o : Option Call) (d : Answer) → length xs ≡ 1 → Repeats (c ∷ []) xs (repeated_calls (c ∷ []) xs) (take n zs)
    → as_list o ≡ calls_instead (kind c) (get_or xs 0 d) → option_map (λ r. (r, get_or zs 0 d)) o ≡ again_told c (get_or xs 0 d)
called_told c [] zs n o d l r e = absurd (omega (arith, l))
called_told c (a ∷ []) zs n o d l r e = told_by c a o n zs d (subst (λ ds. Told c a ds (take n zs)) (append-nil (calls_instead (kind c) a) ∙ sym e) (one_told r c a refl refl))
called_told c (a ∷ b ∷ xs) zs n o d l r e = absurd (omega (arith, l))
