-- The ending of the last block, and the blocks of the padded message.
use Rattle.std.proofs.Common.{◌≡◌, ℕ, ◌+◌, ◌-◌, ◌*◌, ◌/◌, ◌%◌, ◌^◌, ◌≤◌, List, ◌∷◌, ◌++◌, length, take, drop, replicate, sym, refl, ap, ◌∙◌, ap₂, arith}
use Rattle.std.proofs.Math.Seq.{paste}
use Rattle.std.specs.Simd.{first_chunks}
use Rattle.std.proofs.lemmas.List.{append_assoc, length-append, length-replicate, take_at, replicate-append-replicate}
use Rattle.std.proofs.lemmas.List.Edits.{paste_all}
use Rattle.hasher.proofs.Blocks.{chunked-++}
use Rattle.sha256.specs.Sha256.{be64, ending, padded_message, blocks}

zeros-left : (size end n : ℕ) → n + 9 ≤ end → end ≤ size → size - 1 - n ≡ end - 9 - n + (size + 8 - end)
zeros-left size end n lo hi = omega arith

-- `rest`, the byte 128, zeros and eight bytes, as `last_blocks` writes them
module _ (size : ℕ) (rest bits : List ℕ) (end : ℕ) (lo : length rest + 9 ≤ end) (hi : end ≤ size) (eight : length bits ≡ 8) where
  started : rest ++ 128 ∷ replicate (size - 1 - length rest) 0 ≡ (rest ++ 128 ∷ replicate (end - 9 - length rest) 0) ++ replicate (size + 8 - end) 0
  started =
      let n = length rest in
      ap (λ ys. rest ++ 128 ∷ ys) (ap (λ i. replicate i 0) (zeros-left size end n lo hi) ∙ sym (replicate-append-replicate (end - 9 - n) (size + 8 - end) 0))
      ∙ sym (append_assoc rest (128 ∷ replicate (end - 9 - n) 0) (replicate (size + 8 - end) 0))

  pub filled : take end (paste (rest ++ 128 ∷ replicate (size - 1 - length rest) 0) (end - 8) bits 8)
      ≡ rest ++ ((128 ∷ replicate (end - 9 - length rest) 0) ++ bits)
  filled =
      let front : List ℕ = rest ++ 128 ∷ replicate (end - 9 - length rest) 0 in
      let front-size : length front ≡ end - 8 = simp (length-append, length-replicate) (omega arith) in
      let whole-size : length (front ++ bits) ≡ end = length-append front bits ∙ omega arith in
      let l : List ℕ = front ++ replicate (size + 8 - end) 0 in
      ap (λ l. take end (paste l (end - 8) bits 8)) started
      ∙ ap (take end)
      (paste_all l (end - 8) bits 8 (sym eight)
      ∙ ap (λ xs. xs ++ (bits ++ drop (end - 8 + 8) l)) (take_at front (replicate (size + 8 - end) 0) (end - 8) front-size)
      ∙ sym (append_assoc front bits (drop (end - 8 + 8) l)))
      ∙ take_at (front ++ bits) (drop (end - 8 + 8) l) end whole-size ∙ append_assoc rest (128 ∷ replicate (end - 9 - length rest) 0) bits

-- eight bytes hold the length in bits modulo 2 ^ 64
pub be64_bits : (n : ℕ) → be64 ((n * 8) % 2 ^ 64) ≡ be64 (8 * n)
be64_bits n =
    let a : (n * 8) % 2 ^ 64 / 2 ^ 56 % 256 ≡ 8 * n / 2 ^ 56 % 256 = omega arith in
    let b : (n * 8) % 2 ^ 64 / 2 ^ 48 % 256 ≡ 8 * n / 2 ^ 48 % 256 = omega arith in
    let c : (n * 8) % 2 ^ 64 / 2 ^ 40 % 256 ≡ 8 * n / 2 ^ 40 % 256 = omega arith in
    let d : (n * 8) % 2 ^ 64 / 2 ^ 32 % 256 ≡ 8 * n / 2 ^ 32 % 256 = omega arith in
    let e : (n * 8) % 2 ^ 64 / 2 ^ 24 % 256 ≡ 8 * n / 2 ^ 24 % 256 = omega arith in
    let f : (n * 8) % 2 ^ 64 / 2 ^ 16 % 256 ≡ 8 * n / 2 ^ 16 % 256 = omega arith in
    let g : (n * 8) % 2 ^ 64 / 2 ^ 8 % 256 ≡ 8 * n / 2 ^ 8 % 256 = omega arith in
    let h : (n * 8) % 2 ^ 64 % 256 ≡ 8 * n % 256 = omega arith in
    cc

-- the same, by the calls of `last_blocks`
pub last_is : (rest mid bits last : List ℕ) (end len : ℕ) → length rest + 9 ≤ end → end ≤ 128
    → mid ≡ rest ++ 128 ∷ replicate (127 - length rest) 0 → bits ≡ be64 (8 * len)
    → last ≡ paste mid (end - 8) bits (length bits)
    → take end last ≡ rest ++ ending (end - 9 - length rest) len
unfolding ending
last_is rest mid bits last end len lo hi p q r =
    ap (take end) (r ∙ ap₂ (λ m b. paste m (end - 8) b (length b)) p q)
    ∙ filled 128 rest (be64 (8 * len)) end lo hi refl

-- the whole blocks of the message, and then those of what is left of it with the ending, are the blocks of the padded message
pub blocks-padded_message : (m rest last : List ℕ) (whole tail : List (List ℕ)) (end : ℕ)
    → rest ≡ drop (length m / 64 * 64) m → last ≡ rest ++ ending (end - 9 - length rest) (length m)
    → whole ≡ first_chunks 64 (length m / 64) m → tail ≡ first_chunks 64 (length last / 64) last
    → length rest + 9 ≤ end → end - 9 - length rest ≡ (119 - length m % 64) % 64
    → (length m + (9 + (119 - length m % 64) % 64)) / 64 ≡ length m / 64 + end / 64
    → whole ++ tail ≡ blocks (padded_message m)
unfolding padded_message ending
blocks-padded_message m rest last whole tail end r l w t lo z count =
    let q = length m / 64 in
    let zs = (119 - length m % 64) % 64 in
    let len : length (padded_message m) ≡ length m + (9 + zs) = simp (length-append, length-replicate) (omega arith) in
    let size : length last ≡ end = ap length l ∙ simp (length-append, length-replicate) (omega arith) in
    let same : last ≡ drop (q * 64) m ++ ending zs (length m) = l ∙ ap₂ (λ xs i. xs ++ ending i (length m)) r z in
    ap₂ ◌++◌ w (t ∙ ap₂ (λ i xs. first_chunks 64 (i / 64) xs) size same)
    ∙ sym (chunked-++ 64 q (end / 64) m (ending zs (length m)) (omega arith))
    ∙ sym (ap (λ i. first_chunks 64 i (padded_message m)) (ap (λ i. i / 64) len ∙ count))
