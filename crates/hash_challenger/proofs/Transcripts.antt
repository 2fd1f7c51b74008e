-- Bytes in turn and a slice at once, and the word that one digest gives.
use Rattle.std.proofs.Common.{◌≡◌, ℕ, ◌+◌, ◌-◌, ◌*◌, ◌<◌, ◌≤◌, if◌then◌else◌, eqb, leb, List, [], ◌∷◌, ◌++◌, length, get_or, take, Ok, Err, sym, refl, ap, ◌∙◌, arith}
use lib.Bits.{bit_and}
use Rattle.std.proofs.lemmas.List.{length-take-le, get_or-take, take-take, append_assoc, append-nil}
use Rattle.std.proofs.lemmas.Bool.{ne_eqb, cond-false}
use Rattle.refusal.specs.declared.Refusal.TheVariants.{Room}
use Rattle.hasher.specs.Hashing.{IsHashFunction}
use Rattle.byte_transcript.specs.Transcript.{le_bytes, after_bytes, after_observe_bytes, word, passes}
use Rattle.hash_state.specs.declared.held.HashHeld.{HashHeld}
use Rattle.hash_state.specs.Rules.{hash_held, room, after_append, after_observe, with_output, sample_of, last_output, without_output}
use Rattle.hash_state.specs.Words.{end_word}
use Rattle.hash_challenger.specs.Meaning.{hash_transcript}

module _ {n : ℕ} (digest : List ℕ → List ℕ) (hashing : IsHashFunction n digest) where
  puts_on : (i bs : List ℕ) → after_bytes (hash_transcript digest hashing) (hash_held i []) bs ≡ hash_held (i ++ bs) []
  puts_on i [] = ap (λ l. hash_held l []) (sym (append-nil i))
  puts_on i (b ∷ bs) = puts_on (i ++ (b ∷ [])) bs ∙ ap (λ l. hash_held l []) (append_assoc i (b ∷ []) bs)

  -- a slice at once is its bytes in turn
  pub after_bytes-after_append : (h : HashHeld) (bs : List ℕ) → after_bytes (hash_transcript digest hashing) h bs ≡ after_append h bs
  after_bytes-after_append h [] = refl
  after_bytes-after_append h (b ∷ bs) = puts_on (h.input ++ (b ∷ [])) bs ∙ ap (λ l. hash_held l []) (append_assoc h.input (b ∷ []) bs)

  pub after_observe_same : (h : HashHeld) (bs : List ℕ) → after_observe h bs ≡ after_observe_bytes (hash_transcript digest hashing) h bs
  after_observe_same h bs = ap (λ g. if leb (length bs) (room h) then Ok g else Err Room) (sym (after_bytes-after_append h bs))

  -- with j outputs left of a digest d
  module _ (d : List ℕ) (j : ℕ) (some : 0 < j) (within : j ≤ length d) where
    ready_at : with_output digest (hash_held d (take j d)) ≡ hash_held d (take j d)
    ready_at =
        let l = length-take-le j d within in
        cond-false (eqb (length (take j d)) 0) _ _ (ne_eqb (length (take j d)) 0 (λ e. omega arith))

    byte_at : (sample_of digest (hash_held d (take j d))).said ≡ get_or d (j - 1) 0
    byte_at = ap last_output ready_at ∙ ap (λ k. get_or (take j d) (k - 1) 0) (length-take-le j d within) ∙ get_or-take j d (j - 1) 0 (omega arith)

    next_at : (sample_of digest (hash_held d (take j d))).left ≡ hash_held d (take (j - 1) d)
    next_at =
        ap without_output ready_at ∙ ap (λ k. hash_held d (take (k - 1) (take j d))) (length-take-le j d within)
        ∙ ap (hash_held d) (take-take (j - 1) j d (omega arith))

  -- four bytes drawn with no output left are the last four of the digest
  pub word_is : (i : List ℕ) → 4 ≤ n → word (hash_transcript digest hashing) (hash_held i []) ≡ end_word (digest i)
  unfolding word
  word_is i four =
      let m = hash_transcript digest hashing in
      let d = digest i in
      let l = length d in
      let size = hashing.size i in
      let at : (j k : ℕ) → j - 1 ≡ k → hash_held d (take (j - 1) d) ≡ hash_held d (take k d) = λ j k e. ap (λ x. hash_held d (take x d)) e in
      let byte : (j k : ℕ) → j - 1 ≡ k → get_or d (j - 1) 0 ≡ get_or d k 0 = λ j k e. ap (λ x. get_or d x 0) e in
      let s1 = hash_held d (take (l - 1) d) in
      let n1 = next_at d (l - 1) (omega arith) (omega arith) ∙ at (l - 1) (l - 2) (omega arith) in
      let n2 = ap m.after_draw n1 ∙ next_at d (l - 2) (omega arith) (omega arith) ∙ at (l - 2) (l - 3) (omega arith) in
      let b1 = byte_at d (l - 1) (omega arith) (omega arith) ∙ byte (l - 1) (l - 2) (omega arith) in
      let b2 = ap m.byte n1 ∙ byte_at d (l - 2) (omega arith) (omega arith) ∙ byte (l - 2) (l - 3) (omega arith) in
      let b3 = ap m.byte n2 ∙ byte_at d (l - 3) (omega arith) (omega arith) ∙ byte (l - 3) (l - 4) (omega arith) in
      ap (λ v. get_or d (l - 1) 0 + v * 256 + m.byte (m.after_draw s1) * 65536 + m.byte (m.after_draw (m.after_draw s1)) * 16777216) b1
      ∙ ap (λ v. get_or d (l - 1) 0 + get_or d (l - 2) 0 * 256 + v * 65536 + m.byte (m.after_draw (m.after_draw s1)) * 16777216) b2
      ∙ ap (λ v. get_or d (l - 1) 0 + get_or d (l - 2) 0 * 256 + get_or d (l - 3) 0 * 65536 + v * 16777216) b3

  -- the test of a candidate on a prepared input is that of the meaning
  pub passes_is : (h : HashHeld) (i : List ℕ) (mask c : ℕ) → i ≡ h.input → 4 ≤ n
      → eqb (bit_and (end_word (digest (i ++ le_bytes c))) mask) 0 ≡ passes (hash_transcript digest hashing) h mask c
  passes_is h i mask c e four =
      ap (λ v. eqb (bit_and v mask) 0)
      (ap (λ x. end_word (digest (x ++ le_bytes c))) e ∙ sym (word_is (h.input ++ le_bytes c) four) ∙ ap (word (hash_transcript digest hashing)) (sym (after_bytes-after_append h (le_bytes c))))
