-- What a prepared multi-field check draws.
use Rattle.std.proofs.Common.{◌≡◌, ℕ, ◌+◌, ◌-◌, ◌*◌, ◌%◌, ◌^◌, ◌<◌, ◌≤◌, List, [], ◌∷◌, ◌++◌, length, sym, refl, ap, ◌∙◌, arith}
use Rattle.std.proofs.lemmas.List.{length-append}
use Rattle.domain.specs.declared.Domain.{Ghosts as DomainGhosts}
use Rattle.permutation.specs.declared.CryptographicPermutation.{Ghosts as PermutationGhosts}
use Rattle.permutation.specs.Rows.{HasOnlyCodes}
use Rattle.buffer.specs.declared.Buffer.{Buffer}
use Rattle.buffer.specs.Items.{items}
use Rattle.buffer.proofs.Facts.{codes-append}
use Rattle.sponge.specs.declared.Sponge.{Sponge}
use Rattle.sponge.specs.Sponge.{block_turn, last_output}
use Rattle.sponge.specs.SpongeHeld.{held_value, make_meaning}
use Rattle.sponge.specs.AbsorbingProofs.{Words}
use Rattle.sponge.proofs.Turning.{block-full}
use Rattle.code_bits.specs.CodeBits.{code_bits}
use Rattle.packing.specs.declared.RadixPacking.{RadixPacking}
use Rattle.packing.specs.Powers.{limbs, digits}
use Rattle.packing.specs.Packing.{digits_of, packed_words}
use Rattle.packing.specs.PackingProofs.{limbs-some, packed_words-codes}
use Rattle.packing.proofs.Facts.{words-few}
use Rattle.multi_field_blocks.proofs.Lists.{digits-some}
use Rattle.prepared_grind.specs.Tests.{with_last}
use Rattle.multi_field_grind.specs.Scalars.{last_scalar}
use Rattle.multi_field_grind.proofs.Digits.{last_spread}
use Rattle.multi_field_grind.proofs.Packs.{packed_words-some, last_word, last_set}
use Rattle.refusal.specs.declared.limits.TheConstants.{LONGEST_BATCH}

module _ {D P : Type 0} {sampled order : ℕ} {d : DomainGhosts D order} {p : PermutationGhosts P D order} (n : RadixPacking sampled order) (s : Sponge D P order d p) (b : Buffer sampled LONGEST_BATCH)
    (high : order < 2 ^ 64) (room : length (items b) < n.limbs * s.rate) (batch : n.limbs * s.rate ≤ LONGEST_BATCH) where
  abbrev xs : List ℕ
  xs = items b

  abbrev m : ℕ
  m = limbs sampled order

  abbrev more : ℕ → List ℕ
  more w = packed_words (code_bits sampled) m (xs ++ (w ∷ []))

  one : 1 ≤ m
  one = limbs-some sampled order n.low n.small n.less high

  more-length : (w : ℕ) → length (xs ++ (w ∷ [])) ≡ length xs + 1
  more-length w = length-append xs (w ∷ [])

  more-codes : (w : ℕ) → w < sampled → HasOnlyCodes sampled (xs ++ (w ∷ []))
  more-codes w lt = codes-append sampled xs (w ∷ []) b.codes (λ k l. let z : k ≡ 0 = omega (arith, l) in rw z lt)

  words : (w : ℕ) → w < sampled → Words order s.rate (more w)
  words w lt = record {
    few = words-few n high s.rate (xs ++ (w ∷ [])) (more w) refl (omega (arith, room, more-length w));
    codes = packed_words-codes sampled order n.low n.small n.less high (xs ++ (w ∷ [])) (more-codes w lt);
  }

  pub full : (w : ℕ) → w < sampled → 1 ≤ length (block_turn (make_meaning s) (held_value s).row (more w) (length (xs ++ (w ∷ [])))).outputs
  full w lt = omega (arith, s.some, block-full s (more w) (length (xs ++ (w ∷ []))) (words w lt) (omega (arith, room, batch, more-length w, d.arithmetic.low)))

  -- the word that takes the witness
  module _ (rest weight : ℕ) (r : rest ≡ last_output (more 0)) (e : weight ≡ 2 ^ (code_bits sampled * (length xs % m))) where
    word_is : (w : ℕ) → rest + w * weight ≡ last_output (more w)
    word_is w = ap (λ x. x + w * weight) r ∙ ap (λ x. last_output (more 0) + w * x) e ∙ sym (last_word (code_bits sampled) m one xs w)

    pub word-code : (w : ℕ) → w < sampled → rest + w * weight < order
    word-code w lt = omega (arith, word_is w, packed_words-some (code_bits sampled) m one xs w, (words w lt).codes (length (more w) - 1) (omega (arith, packed_words-some (code_bits sampled) m one xs w)))

    pub drawn_is : (tag k : ℕ) (last : ℕ → ℕ) → 256 ≤ sampled → tag ≡ length xs + 1 → k ≡ digits sampled order
        → ((c : ℕ) → last c ≡ last_output (block_turn (make_meaning s) (held_value s).row (with_last (more 0) c) tag).outputs) → (w : ℕ) → w < sampled
        → last_output (digits_of sampled k (last (rest + w * weight))) ≡ last_scalar sampled order (block_turn (make_meaning s) (held_value s).row (more w) (length (xs ++ (w ∷ [])))).outputs
    drawn_is tag k last low t f is w lt =
        let out = λ (words : List ℕ) (tag : ℕ). (block_turn (make_meaning s) (held_value s).row words tag).outputs in
        let read = λ (x : ℕ). last_output (digits_of sampled (digits sampled order) x) in
        let came : last (rest + w * weight) ≡ last_output (out (more w) (length (xs ++ (w ∷ [])))) =
        ap last (word_is w) ∙ is (last_output (more w)) ∙ ap (λ ws. last_output (out ws tag)) (last_set (code_bits sampled) m one xs w)
        ∙ ap (λ j. last_output (out (more w) j)) (t ∙ sym (more-length w)) in
        ap (λ j. last_output (digits_of sampled j (last (rest + w * weight)))) f ∙ ap read came
        ∙ sym (last_spread sampled (digits sampled order) (out (more w) (length (xs ++ (w ∷ [])))) (digits-some sampled order low n.less high) (full w lt))
