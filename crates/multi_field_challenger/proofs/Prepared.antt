-- What a sample gives once a witness was taken.
use Rattle.std.proofs.Common.{◌≡◌, ℕ, ◌*◌, ◌<◌, ◌≤◌, if◌then◌else◌, eqb, ltb, List, [], ◌∷◌, ◌++◌, length, sym, refl, ap, ◌∙◌, inl, inr, arith}
use Rattle.std.proofs.lemmas.Bool.{cases_Bool, cond-true, cond-false, lt-ltb, ne_eqb}
use Rattle.std.proofs.lemmas.List.{length-append}
use Rattle.sponge.specs.Sponge.{SpongeMake, SpongeState, block_turn, last_output}
use Rattle.code_bits.specs.CodeBits.{code_bits}
use Rattle.packing.specs.Powers.{limbs}
use Rattle.packing.specs.Packing.{packed_words}
use Rattle.multi_field_grind.specs.Scalars.{last_scalar}
use Rattle.multi_field_blocks.specs.Blocks.{with_outputs}
use Rattle.multi_field_challenger.specs.declared.held.MultiHeld.{MultiHeld}
use Rattle.multi_field_challenger.specs.Rules.{multi_held, sponge_of, after_flush, after_flush_if_pending, after_code, after_fill, with_scalar, sample_of}

module _ {order : ℕ} (sampled : ℕ) (k : SpongeMake order) (h : MultiHeld) (w : ℕ) where
  abbrev pub more : MultiHeld
  more = multi_held h.row (h.pending ++ (w ∷ [])) [] []

  some : 0 < length (h.pending ++ (w ∷ []))
  some = omega (arith, length-append h.pending (w ∷ []))

  after_flush_if_pending-more : after_flush_if_pending sampled k more ≡ after_flush sampled k more
  unfolding after_flush_if_pending
  after_flush_if_pending-more = cond-true (ltb 0 (length more.pending)) _ _ (lt-ltb 0 (length more.pending) some)

  after_flush_if_pending-after_flush : after_flush_if_pending sampled k (after_flush sampled k more) ≡ after_flush sampled k more
  unfolding after_flush_if_pending after_flush
  after_flush_if_pending-after_flush = refl

  with_scalar-after_flush : (g : MultiHeld) → after_flush_if_pending sampled k g ≡ after_flush sampled k more → with_scalar sampled k g ≡ after_fill sampled k (after_flush sampled k more)
  unfolding with_scalar after_flush
  with_scalar-after_flush g e = ap (λ (x : MultiHeld). if eqb (length x.squeeze) 0 then after_fill sampled k x else x) e

  -- one flush comes, at the latest when a sample is asked for
  pub with_scalar_is : with_scalar sampled k (after_code sampled k h w) ≡ after_fill sampled k (after_flush sampled k more)
  unfolding after_code
  with_scalar_is =
      elim (cases_Bool (eqb (length more.pending) (limbs sampled order * k.rate))) [
        | inl t ↦ ap (with_scalar sampled k) (cond-true _ (after_flush sampled k more) more t) ∙ with_scalar-after_flush (after_flush sampled k more) after_flush_if_pending-after_flush
        | inr f ↦ ap (with_scalar sampled k) (cond-false _ (after_flush sampled k more) more f) ∙ with_scalar-after_flush more after_flush_if_pending-more
      ]

  sample_said : 1 ≤ length (after_flush sampled k more).outputs
      → (sample_of sampled k (after_code sampled k h w)).said ≡ last_scalar sampled order (after_flush sampled k more).outputs
  unfolding sample_of after_fill with_outputs
  sample_said any =
      let f = after_flush sampled k more in
      let kept = cond-false (eqb (length f.outputs) 0) _ (sponge_of f) (ne_eqb (length f.outputs) 0 (λ e. omega arith)) in
      ap (λ (g : MultiHeld). last_output g.squeeze) with_scalar_is ∙ ap (λ (s : SpongeState). last_scalar sampled order s.outputs) kept

  abbrev pub outputs : List ℕ
  outputs = (block_turn k h.row (packed_words (code_bits sampled) (limbs sampled order) (h.pending ++ (w ∷ []))) (length (h.pending ++ (w ∷ [])))).outputs

  pub drawn_said : 1 ≤ length outputs → last_scalar sampled order outputs ≡ (sample_of sampled k (after_code sampled k h w)).said
  unfolding after_flush
  drawn_said any = sym (sample_said any)
