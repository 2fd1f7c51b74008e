-- One more round, and one more word of the schedule.
use Rattle.std.proofs.Common.{◌≡◌, ℕ, suc, ◌+◌, ◌-◌, ◌<◌, ◌≤◌, List, [], ◌∷◌, ◌++◌, length, get_or, take, set, sym, ap, ◌∙◌, ap₂, arith}
use Rattle.std.proofs.lemmas.List.{take_more_set, get_or-take, take_all, length-take-le, length-set}
use Rattle.std.proofs.lemmas.List.FromFn.{fill_by_all}
use Rattle.sha256.specs.declared.Words.{Words}
use Rattle.sha256.specs.Sha256.{K, round, rounds, schedule, with_next_word, next, word, words}

pub more_rounds : (ws : List ℕ) (s : Words) (t u : ℕ) (v v' : Words)
    → v ≡ rounds t ws s → v' ≡ round (get_or K t 0) (get_or ws t 0) v → suc t ≡ u → v' ≡ rounds u ws s
unfolding rounds
more_rounds ws s t u v v' p r e = r ∙ ap (round (get_or K t 0) (get_or ws t 0)) p ∙ ap (λ u. rounds u ws s) e

pub first-words : (bs w : List ℕ) (t : ℕ) → length w ≡ 64 → t ≡ 16 → ((k : ℕ) → k < t → get_or w k 0 ≡ word bs k) → take 16 w ≡ words bs
unfolding words
first-words bs w t n e p =
    fill_by_all (word bs) (take 16 w) 16 0 (length-take-le 16 w (omega arith))
    (λ k h. get_or-take 16 w k 0 h ∙ p k (omega arith))

next-take : (w : List ℕ) (i : ℕ) → 16 ≤ i → next (take i w) i ≡ next w i
next-take w i lo =
    let a = get_or-take i w (i - 2) 0 (omega arith) in
    let b = get_or-take i w (i - 7) 0 (omega arith) in
    let c = get_or-take i w (i - 15) 0 (omega arith) in
    let d = get_or-take i w (i - 16) 0 (omega arith) in
    cc

-- after t words more than those of the block
abbrev pub Made : List ℕ → List ℕ → ℕ → Type 0
Made m w t = (length w ≡ 64) × (take (t + 16) w ≡ schedule t m)

pub more_words : (m w w' : List ℕ) (t u : ℕ) → Made m w t → t < 48 → w' ≡ set w (t + 16) (next w (t + 16)) → suc t ≡ u → Made m w' u
unfolding schedule
more_words m w w' t u (n, p) h e up =
    let i = t + 16 in
    let x = next w i in
    let at : i ≡ 16 + t = omega arith in
    let one : u + 16 ≡ i + 1 = omega arith in
    let more : take (i + 1) (set w i x) ≡ schedule (suc t) m =
    take_more_set w i x (omega arith) ∙ ap (λ y. take i w ++ y ∷ []) (sym (next-take w i (omega arith))) ∙ ap₂ with_next_word p at in
    (ap length e ∙ length-set w i x ∙ n, ap₂ take one e ∙ more ∙ ap (λ j. schedule j m) up)

-- past the 48th all are made
pub all_made : (m w : List ℕ) (t : ℕ) → Made m w t → t ≡ 48 → w ≡ schedule 48 m
all_made m w t (n, p) e = sym (take_all (t + 16) w (omega arith)) ∙ p ∙ ap (λ i. schedule i m) e
