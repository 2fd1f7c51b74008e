-- What a sample gives once a witness was taken.
use Rattle.std.proofs.Common.{◌≡◌, ℕ, ◌+◌, ◌-◌, ◌<◌, ◌≤◌, if◌then◌else◌, ◌||◌, eqb, List, [], ◌∷◌, ◌++◌, length, sym, refl, ap, ◌∙◌, inl, inr, arith}
use Rattle.std.proofs.lemmas.Bool.{cases_Bool, cond-true, cond-false, lt-ltb, ne_eqb}
use Rattle.std.proofs.lemmas.List.{length-append, set_at}
use Rattle.domain.specs.declared.Domain.{Ghosts as DomainGhosts}
use Rattle.permutation.specs.declared.CryptographicPermutation.{Ghosts as PermutationGhosts}
use Rattle.permutation.specs.Rows.{HasOnlyCodes}
use Rattle.buffer.specs.declared.Buffer.{Buffer}
use Rattle.buffer.specs.Items.{items}
use Rattle.buffer.proofs.Facts.{codes-append}
use Rattle.sponge.specs.declared.Sponge.{Sponge}
use Rattle.sponge.specs.Sponge.{SpongeMake, SpongeState, block_turn, last_output}
use Rattle.sponge.specs.Sponge.{after_turn as sponge_after_turn}
use Rattle.sponge.specs.SpongeHeld.{held_value as sponge_held, make_meaning}
use Rattle.sponge.specs.AbsorbingProofs.{Words}
use Rattle.sponge.proofs.Turning.{length_code, block-full}
use Rattle.prepared_grind.specs.Tests.{with_last}
use Rattle.duplex_challenger.specs.declared.held.DuplexHeld.{DuplexHeld}
use Rattle.duplex_challenger.specs.Rules.{duplex_held, after_turn, after_code, with_output, sample_of}
use Rattle.refusal.specs.declared.limits.TheConstants.{WIDEST_ROW}

after_turn-some : {order : ℕ} (k : SpongeMake order) (row xs : List ℕ) → 0 < length xs → sponge_after_turn k row xs ≡ block_turn k row xs (length xs)
after_turn-some k row [] any = absurd (omega arith)
after_turn-some k row (x ∷ xs) any = refl

module _ {order : ℕ} (k : SpongeMake order) (h : DuplexHeld) (w : ℕ) where
  abbrev pub block : List ℕ
  block = (block_turn k h.row (h.pending ++ (w ∷ [])) (length (h.pending ++ (w ∷ [])))).outputs

  abbrev pub more : DuplexHeld
  more = duplex_held h.row (h.pending ++ (w ∷ [])) []

  some : 0 < length (h.pending ++ (w ∷ []))
  some = omega (arith, length-append h.pending (w ∷ []))

  outputs_are : (after_turn k more).outputs ≡ block
  unfolding after_turn
  outputs_are = ap (λ (s : SpongeState). s.outputs) (after_turn-some k h.row (h.pending ++ (w ∷ [])) some)

  with_output-after_turn : 1 ≤ length (after_turn k more).outputs → with_output k (after_turn k more) ≡ after_turn k more
  unfolding with_output after_turn
  with_output-after_turn any = cond-false _ _ _ (ne_eqb (length (after_turn k more).outputs) 0 (λ e. omega arith))

  with_output-more : with_output k more ≡ after_turn k more
  unfolding with_output
  with_output-more = ap (λ x. if x || eqb 0 0 then after_turn k more else more) (lt-ltb 0 (length more.pending) some)

  -- one turn comes, at the latest when a sample is asked for
  pub with_output_is : 1 ≤ length (after_turn k more).outputs → with_output k (after_code k h w) ≡ after_turn k more
  unfolding after_code
  with_output_is any =
      elim (cases_Bool (eqb (length more.pending) k.rate)) [
        | inl t ↦ ap (with_output k) (cond-true _ (after_turn k more) more t) ∙ with_output-after_turn any
        | inr f ↦ ap (with_output k) (cond-false _ (after_turn k more) more f) ∙ with_output-more
      ]

  pub drawn_said : 1 ≤ length block → last_output block ≡ (sample_of k (after_code k h w)).said
  unfolding sample_of
  drawn_said any =
      sym (ap (λ (g : DuplexHeld). last_output g.outputs) (with_output_is (omega (arith, any, ap length outputs_are))) ∙ ap last_output outputs_are)

-- the codes with a 0 in the last place, and there the witness
pub with_witness : (xs : List ℕ) (w : ℕ) → with_last (xs ++ (0 ∷ [])) w ≡ xs ++ (w ∷ [])
with_witness xs w = set_at xs 0 [] w (length (xs ++ (0 ∷ [])) - 1) (omega (arith, length-append xs (0 ∷ [])))

-- the outputs of the block's turn are some
pub full : {D P : Type 0} {order : ℕ} {d : DomainGhosts D order} {p : PermutationGhosts P D order} (s : Sponge D P order d p) (b : Buffer order WIDEST_ROW) (w : ℕ) → w < order → length (items b) < s.rate
    → 1 ≤ length (block_turn (make_meaning s) (sponge_held s).row (items b ++ (w ∷ [])) (length (items b ++ (w ∷ [])))).outputs
full {order = order} s b w lt room =
    let xs = items b ++ (w ∷ []) in
    let l : length xs ≡ length (items b) + 1 = length-append (items b) (w ∷ []) in
    let last : HasOnlyCodes order (w ∷ []) = λ k i. (let z : k ≡ 0 = omega (arith, i) in rw z lt) in
    let words : Words order s.rate xs = record { few = omega (arith, l, room); codes = codes-append order (items b) (w ∷ []) b.codes last } in
    omega (arith, s.some, block-full s xs (length xs) words (length_code s (length xs) words.few))
