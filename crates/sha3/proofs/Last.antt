-- The last block, and the blocks of the padded message.
use Rattle.std.proofs.Common.{◌≡◌, ℕ, ◌+◌, ◌-◌, ◌*◌, ◌/◌, ◌%◌, ◌<◌, List, [], ◌∷◌, ◌++◌, length, get_or, take, drop, set, replicate, sym, refl, ap, ◌∙◌, ap₂, bit_or, arith}
use Rattle.std.specs.Simd.{first_chunks}
use Rattle.std.proofs.lemmas.List.{length-append, length-replicate, length-drop, length-set, take_all, set-append_right, get_or-append_right}
use Rattle.hasher.proofs.Blocks.{chunked-++}
use Rattle.sha3.specs.Sha3.{with_last_bit, padded_message, blocks}

pub last_is : (rest mid : List ℕ) → length rest < 136 → mid ≡ rest ++ 6 ∷ replicate (135 - length rest) 0
    → set mid 135 (bit_or (get_or mid 135 0) 128) ≡ rest ++ with_last_bit (6 ∷ replicate (135 - length rest) 0)
last_is rest mid h begun =
    let n = length rest in
    let zs : List ℕ = replicate (135 - n) 0 in
    let at : 135 - n ≡ length (6 ∷ zs) - 1 = simp length-replicate (omega arith) in
    ap (λ l. set l 135 (bit_or (get_or l 135 0) 128)) begun
    ∙ set-append_right rest (6 ∷ zs) n 135 _ refl (omega arith)
    ∙ ap (λ x. rest ++ set (6 ∷ zs) (135 - n) (bit_or x 128)) (get_or-append_right rest (6 ∷ zs) n 135 0 refl (omega arith))
    ∙ ap (λ i. rest ++ set (6 ∷ zs) i (bit_or (get_or (6 ∷ zs) i 0) 128)) at

pub blocks-padded_message : (m rest last : List ℕ) (whole : List (List ℕ)) → rest ≡ drop (length m / 136 * 136) m → length rest ≡ length m % 136
    → last ≡ rest ++ with_last_bit (6 ∷ replicate (135 - length rest) 0) → whole ≡ first_chunks 136 (length m / 136) m
    → whole ++ last ∷ [] ≡ blocks (padded_message m)
unfolding padded_message
blocks-padded_message m rest last whole r n l w =
    let q = length m / 136 in
    let tail : List ℕ = with_last_bit (6 ∷ replicate (135 - length m % 136) 0) in
    let size : length tail ≡ 136 - length m % 136 = simp (length-set, length-replicate) (omega arith) in
    let same : last ≡ drop (q * 136) m ++ tail = l ∙ ap₂ (λ xs i. xs ++ with_last_bit (6 ∷ replicate (135 - i) 0)) r n in
    let all : length last ≡ 136 = ap length same ∙ length-append (drop (q * 136) m) tail ∙ simp length-drop (omega arith) in
    let count : length (padded_message m) / 136 ≡ q + 1 = simp length-append (omega arith) in
    ap₂ (λ xs y. xs ++ y ∷ []) w (sym (take_all 136 last (omega arith)) ∙ ap (take 136) same)
    ∙ sym (chunked-++ 136 q 1 m tail (omega arith)) ∙ sym (ap (λ i. first_chunks 136 i (padded_message m)) count)
