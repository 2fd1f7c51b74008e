-- A block with another word in a place of it.
use Rattle.std.proofs.Common.{◌≡◌, ℕ, ◌+◌, ◌-◌, ◌<◌, ◌≤◌, List, ◌∷◌, ◌++◌, length, get_or, slice_index, set, take, drop, replicate, ap, ◌∙◌, sym, arith, length-set}
use Rattle.std.proofs.lemmas.List.{length-append, length-take-le, get_or-take, set-append_left}
use Rattle.sponge.specs.Sponge.{SpongeMake, padded_words, row_with_block, last_output}

padded_words-set : (words : List ℕ) (rate i c : ℕ) → i < length words → set (padded_words words rate) i c ≡ padded_words (set words i c) rate
padded_words-set words rate i c inside =
    set-append_left words (replicate (rate - length words) 0) i c inside
    ∙ ap (λ n. set words i c ++ replicate {A = ℕ} (rate - n) 0) (sym (length-set words i c))

-- the word is set in the block, or in the row that the block is written in
pub row_with_block-set : {order : ℕ} (k : SpongeMake order) (row words : List ℕ) (tag i c : ℕ) → i < length words
    → set (row_with_block k row words tag) i c ≡ row_with_block k row (set words i c) tag
unfolding row_with_block
row_with_block-set k row words tag i c inside =
    let rest = k.arithmetic.add (slice_index row k.rate) tag ∷ drop (k.rate + 1) row in
    set-append_left (padded_words words k.rate) rest i c (omega (arith, length-append words (replicate {A = ℕ} (k.rate - length words) 0)))
    ∙ ap (λ xs. xs ++ rest) (padded_words-set words k.rate i c inside)

-- the last of the first n
pub last_of_front : (n : ℕ) (xs : List ℕ) → 1 ≤ n → n ≤ length xs → last_output (take n xs) ≡ get_or xs (n - 1) 0
last_of_front n xs some inside = ap (λ k. get_or (take n xs) (k - 1) 0) (length-take-le n xs inside) ∙ get_or-take n xs (n - 1) 0 (omega arith)
