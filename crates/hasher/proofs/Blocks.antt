-- Blocks of a list that has been put together: for hash functions that go block by block.
use Rattle.std.proofs.Common.{◌≡◌, ℕ, zero, suc, ◌+◌, ◌*◌, ◌<◌, ◌≤◌, List, [], ◌∷◌, ◌++◌, length, get_or, take, drop, fold, refl, sym, ap, ◌∙◌, suc-mul, suc-add, zero-add, zero-mul, arith}
use Rattle.std.specs.Simd.{first_chunks}
use Rattle.std.proofs.lemmas.List.{length-drop, take-append-le, drop-append-le, drop-drop, get_or-take, get_or-drop}

pub folded-++ : {A B : Type 0} (f : B → A → B) (a : B) (xs ys : List A) → fold f a (xs ++ ys) ≡ fold f (fold f a xs) ys
folded-++ f a [] ys = refl
folded-++ f a (x ∷ xs) ys = folded-++ f (f a x) xs ys

-- q blocks of n from m, then k blocks from what is left of m with p after it
pub chunked-++ : (n q k : ℕ) (m p : List ℕ) → q * n ≤ length m
    → first_chunks n (q + k) (m ++ p) ≡ first_chunks n q m ++ first_chunks n k (drop (q * n) m ++ p)
chunked-++ n zero k m p h = rw (zero-add, zero-mul)
chunked-++ n (suc q) k m p h =
    let e = suc-mul q n in
    let front : n ≤ length m = omega arith in
    rw (suc-add, take-append-le, drop-append-le)
    (ap (λ bs. take n m ∷ bs)
    (chunked-++ n q k (drop n m) p (simp length-drop (omega arith))
    ∙ ap (λ ys. first_chunks n q (drop n m) ++ first_chunks n k (ys ++ p)) (drop-drop (q * n) n m ∙ ap (λ i. drop i m) (omega arith))))

-- element j of chunk t
pub chunk_at : (n q t j i : ℕ) (xs : List ℕ) → t < q → j < n → i ≡ t * n + j → get_or (get_or (first_chunks n q xs) t []) j 0 ≡ get_or xs i 0
chunk_at n zero t j i xs lt h e = let z : ⊥ = omega arith in absurd z
chunk_at n (suc q) zero j i xs lt h e =
    let at : j ≡ i = sym (e ∙ simp zero-mul (omega arith)) in
    get_or-take n xs j 0 h ∙ ap (λ k. get_or xs k 0) at
chunk_at n (suc q) (suc t) j i xs lt h e =
    let m = suc-mul t n in
    chunk_at n q t j (t * n + j) (drop n xs) (omega arith) h refl ∙ get_or-drop n xs (t * n + j) 0 ∙ ap (λ k. get_or xs k 0) (omega arith)
