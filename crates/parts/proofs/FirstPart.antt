-- The first part of a script, and the others.
use Rattle.std.proofs.Common.{◌≡◌, ℕ, ◌+◌, ◌≤◌, Bool, true, false, if◌then◌else◌, List, [], ◌∷◌, ◌++◌, length, drop, refl, ap, sym, ◌∙◌, arith}
use Rattle.std.proofs.Math.Seq.{drop-append_seam}
use Rattle.std.proofs.lemmas.List.{length-append, length-drop, drop-drop}
use Rattle.rehearsal.specs.declared.lines.Mark.TheVariants.{Make}
use Rattle.rehearsal.specs.Lines.{At, marks, before, from}
use Rattle.script.specs.Grammar.{said_by}
use Rattle.parts.specs.Scripts.{Way, begun, parts, read_part, all_parts, script}

one_more : (l x : At) (xs : List At) (b : Bool) → (if b then (l, []) ∷ (x, before Make xs) ∷ parts (from Make xs) else (l, x ∷ before Make xs) ∷ parts (from Make xs))
    ≡ (l, if b then [] else x ∷ before Make xs) ∷ (if b then (x, before Make xs) ∷ parts (from Make xs) else parts (from Make xs))
one_more l x xs true = refl
one_more l x xs false = refl

parts-if : (b : Bool) (xs ys : List At) → (if b then parts xs else parts ys) ≡ parts (if b then xs else ys)
parts-if true xs ys = refl
parts-if false xs ys = refl

pub parts_first : (l : At) (ls : List At) → parts (l ∷ ls) ≡ (l, before Make ls) ∷ parts (from Make ls)
parts_first l [] = refl
parts_first l (x ∷ xs) =
    let ih = parts_first x xs in
    ap (begun l) ih ∙ one_more l x xs (marks Make x)
    ∙ ap (λ ps. (l, before Make (x ∷ xs)) ∷ ps) (ap (λ ps. if marks Make x then ps else parts (from Make xs)) (sym ih) ∙ parts-if (marks Make x) (x ∷ xs) (from Make xs))

pub script_first : (w : Way) (l : At) (ls : List At) → script w (l ∷ ls) ≡ read_part w (l, before Make ls) (said_by l.1) ++ script w (from Make ls)
script_first w l ls = ap (all_parts w) (parts_first l ls)

-- from a place where a line stands, and these lines behind it: what is behind them
pub place_behind : {A : Type 0} (n : ℕ) (xs : List A) (x : A) (us vs : List A) → n ≤ length xs → drop n xs ≡ x ∷ (us ++ vs)
    → (n + (1 + length us) ≤ length xs) × (drop (n + (1 + length us)) xs ≡ vs)
place_behind n xs x us vs le e =
    let long = ap length e in
    let both = length-append us vs in
    let all = length-drop n xs in
    let more : 1 + length us ≡ length (x ∷ us) = omega arith in
    (omega arith, sym (drop-drop (1 + length us) n xs) ∙ ap (drop (1 + length us)) e ∙ ap (λ m. drop m (x ∷ (us ++ vs))) more ∙ drop-append_seam (x ∷ us) vs)
