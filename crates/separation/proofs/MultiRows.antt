-- The row of a multi-field challenger that was given a block.
use Rattle.std.proofs.Common.{◌≡◌, ℕ, ◌+◌, ◌*◌, ◌^◌, ◌<◌, ◌≤◌, true, ◌&&◌, ◌≢◌, eqb, List, [], ◌∷◌, ◌++◌, length, take, drop, Some, None, Option, refl, ap, ◌∙◌, arith}
use Rattle.std.proofs.lemmas.List.{length-append, take_all}
use Rattle.std.proofs.lemmas.Bool.{and_parts, cond-false, ne_eqb}
use Rattle.domain.specs.declared.Domain.{Ghosts as DomainGhosts}
use Rattle.permutation.specs.declared.CryptographicPermutation.{Ghosts as PermutationGhosts}
use Rattle.buffer.specs.Items.{items}
use Rattle.sponge.specs.Sponge.{SpongeMake, SpongeState, sponge_state, empty_turn}
use Rattle.sponge.specs.SameSponge.{SameSponge}
use Rattle.sponge.proofs.Turning.{length_code, block-full}
use Rattle.code_bits.specs.CodeBits.{code_bits}
use Rattle.packing.specs.Powers.{limbs}
use Rattle.packing.specs.Packing.{packed_words, groups, group}
use Rattle.packing.specs.PackingProofs.{groups-few, some-group}
use Rattle.multi_field_blocks.specs.Blocks.{scalars_block_turn, words_block_turn, with_outputs, after_groups}
use Rattle.challenger_traits.specs.Observing.{after_codes}
use Rattle.multi_field_challenger.specs.declared.MultiField32Challenger.{MultiField32Challenger}
use Rattle.multi_field_challenger.specs.declared.held.MultiHeld.{MultiHeld}
use Rattle.multi_field_challenger.specs.Rules.{multi_held, after_flush, after_flush_if_pending, after_code, after_digest, after_fill, with_scalar, sample_of}
use Rattle.multi_field_challenger.specs.Holds.{held_value, make_meaning}
use Rattle.multi_field_challenger.proofs.Prepared.{with_scalar_is}
use Rattle.sponge.specs.Tags.{Numbers, codes, scalars, words}
use Rattle.separation.specs.Blocks.{is_list_of_codes, is_turn, after_given}
use Rattle.separation.specs.Separation.{AreUnlike}
use Rattle.separation.specs.Given.{is_empty_unless_given, is_multi_turn, multi_takes, multi_after_given}
use Rattle.separation.proofs.BlockKinds.{list_some, list_few, list-words, packed-block, scalars_list, rows_apart}
use Rattle.separation.proofs.Observed.{observed, none_of}
use Rattle.refusal.specs.declared.limits.TheConstants.{LONGEST_BATCH}

-- words that fit the rate are absorbed as one group
one_group : {order : ℕ} (k : SpongeMake order) (s : SpongeState) (ws : List ℕ) → 1 ≤ k.rate → 1 ≤ length ws → length ws ≤ k.rate → after_groups k s ws (groups k.rate ws) ≡ words_block_turn k s.row ws
one_group k s ws any some few =
    let one : groups k.rate ws ≡ 1 = omega (arith, groups-few k.rate any 1 ws (omega arith), some-group k.rate any ws 0 (omega arith)) in
    let first : 0 * k.rate ≡ 0 = omega arith in
    let whole : group k.rate ws 0 ≡ ws = ap (λ n. take k.rate (drop n ws)) first ∙ take_all k.rate ws few in
    ap (after_groups k s ws) one ∙ ap (words_block_turn k s.row) whole

-- outputs that are left stay
kept : {order : ℕ} (k : SpongeMake order) (s : SpongeState) → 1 ≤ length s.outputs → with_outputs k s ≡ s
unfolding with_outputs
kept k s any = cond-false (eqb (length s.outputs) 0) _ s (ne_eqb (length s.outputs) 0 (λ e. omega arith))

module _ {F D P : Type 0} {sampled order : ℕ} {f : DomainGhosts F sampled} {d : DomainGhosts D order} {p : PermutationGhosts P D order} (high : order < 2 ^ 64) (s : MultiField32Challenger F D P sampled order f d p) where
  -- these scalars are pending, and both output lists are empty
  abbrev hold : List ℕ → MultiHeld
  hold xs = multi_held (items s.sponge.row) xs [] []

  abbrev batch : ℕ
  batch = limbs sampled order * s.sponge.rate

  waits : (xs : List ℕ) (c : ℕ) → length xs + 1 < batch → after_code sampled (make_meaning s) (hold xs) c ≡ hold (xs ++ (c ∷ []))
  unfolding after_code
  waits xs c less = cond-false _ _ _ (ne_eqb (length (xs ++ (c ∷ []))) batch (λ e. omega (arith, length-append xs (c ∷ []))))

  short : batch ≤ LONGEST_BATCH
  short = omega (arith, s.batch, ap (λ n. n * s.sponge.rate) s.packing.sized)

  -- the outputs of a flush are some
  flush-full : (xs : List ℕ) → is_list_of_codes sampled batch xs ≡ true → 1 ≤ length (scalars_block_turn sampled (make_meaning s) (items s.sponge.row) xs).outputs
  flush-full xs h =
      let n = s.packing in
      let block = packed-block sampled order s.sponge.rate n.low n.small n.less high xs h in
      omega (arith, s.sponge.some, block-full s.sponge (packed_words (code_bits sampled) (limbs sampled order) xs) (length xs) block (omega (arith, short, list_few sampled batch xs h, d.arithmetic.low)))

  ends : (xs : List ℕ) (c : ℕ) → is_list_of_codes sampled batch (xs ++ (c ∷ [])) ≡ true
      → (sample_of sampled (make_meaning s) (after_code sampled (make_meaning s) (hold xs) c)).left.row ≡ (scalars_block_turn sampled (make_meaning s) (items s.sponge.row) (xs ++ (c ∷ []))).row
  unfolding sample_of after_fill after_flush
  ends xs c h =
      let k = make_meaning s in
      let all = xs ++ (c ∷ []) in
      ap (λ (g : MultiHeld). g.row) (with_scalar_is sampled k (hold xs) c)
      ∙ ap (λ (u : SpongeState). u.row) (kept k (scalars_block_turn sampled k (items s.sponge.row) all) (flush-full all h))

  digest : (ws : List ℕ) → is_list_of_codes order s.sponge.rate ws ≡ true
      → (sample_of sampled (make_meaning s) (after_digest sampled (make_meaning s) (hold []) ws)).left.row ≡ (words_block_turn (make_meaning s) (items s.sponge.row) ws).row
  unfolding sample_of with_scalar after_fill after_digest after_flush_if_pending
  digest ws h =
      let k = make_meaning s in
      let few = list_few order s.sponge.rate ws h in
      let one = one_group k (sponge_state (items s.sponge.row) []) ws s.sponge.some (list_some order s.sponge.rate ws h) few in
      let full = block-full s.sponge ws (length ws) (list-words order s.sponge.rate ws h) (length_code s.sponge (length ws) few) in
      ap (λ (u : SpongeState). (with_outputs k u).row) one
      ∙ ap (λ (u : SpongeState). u.row) (kept k (words_block_turn k (items s.sponge.row) ws) (omega (arith, full, s.sponge.some)))

  -- what was asked of the challenger
  module _ (given : Option Numbers) (h : multi_takes sampled (make_meaning s) (held_value s) given ≡ true) where
    none_pending : items s.pending ≡ []
    none_pending = none_of (items s.pending) (and_parts (eqb (length (items s.pending)) 0) _ h).0

    outputs_and : is_empty_unless_given given (items s.sponge.outputs) && (is_empty_unless_given given (items s.squeeze) && is_multi_turn sampled order s.sponge.rate given) ≡ true
    outputs_and = (and_parts (eqb (length (items s.pending)) 0) _ h).1

    squeeze_and : is_empty_unless_given given (items s.squeeze) && is_multi_turn sampled order s.sponge.rate given ≡ true
    squeeze_and = (and_parts (is_empty_unless_given given (items s.sponge.outputs)) _ outputs_and).1

    outputs_drained : is_empty_unless_given given (items s.sponge.outputs) ≡ true
    outputs_drained = (and_parts (is_empty_unless_given given (items s.sponge.outputs)) _ outputs_and).0

    squeeze_drained : is_empty_unless_given given (items s.squeeze) ≡ true
    squeeze_drained = (and_parts (is_empty_unless_given given (items s.squeeze)) _ squeeze_and).0

    is_given : is_multi_turn sampled order s.sponge.rate given ≡ true
    is_given = (and_parts (is_empty_unless_given given (items s.squeeze)) _ squeeze_and).1

  -- a turn of a multi-field challenger is a turn of its sponge
  taken-turn : (given : Option Numbers) → is_multi_turn sampled order s.sponge.rate given ≡ true → is_turn sampled order s.sponge.rate given ≡ true
  taken-turn None h = refl
  taken-turn (Some (codes xs)) h = cc
  taken-turn (Some (scalars xs)) h = h
  taken-turn (Some (words xs)) h = h

  -- scalars that are observed drop both output lists
  observed_row : (pending outputs squeeze xs : List ℕ) → pending ≡ [] → is_list_of_codes sampled batch xs ≡ true
      → (sample_of sampled (make_meaning s) (after_codes (after_code sampled (make_meaning s)) (multi_held (items s.sponge.row) pending outputs squeeze) xs)).left.row ≡ (scalars_block_turn sampled (make_meaning s) (items s.sponge.row) xs).row
  unfolding after_code
  observed_row pending outputs squeeze [] none h = absurd (omega (arith, list_some sampled batch [] h))
  observed_row pending outputs squeeze (c ∷ cs) none h =
      let k = make_meaning s in
      ap (λ ps. (sample_of sampled k (after_codes (after_code sampled k) (after_code sampled k (multi_held (items s.sponge.row) ps [] []) c) cs)).left.row) none
      ∙ observed sampled batch (after_code sampled k) hold (λ g. (sample_of sampled k g).left.row) (λ xs. (scalars_block_turn sampled k (items s.sponge.row) xs).row) waits ends (c ∷ cs) h

  -- so does a digest
  digest_row : (pending outputs squeeze ws : List ℕ) → pending ≡ [] → is_list_of_codes order s.sponge.rate ws ≡ true
      → (sample_of sampled (make_meaning s) (after_digest sampled (make_meaning s) (multi_held (items s.sponge.row) pending outputs squeeze) ws)).left.row ≡ (words_block_turn (make_meaning s) (items s.sponge.row) ws).row
  unfolding after_digest
  digest_row pending outputs squeeze ws none h =
      ap (λ ps. (sample_of sampled (make_meaning s) (after_digest sampled (make_meaning s) (multi_held (items s.sponge.row) ps [] []) ws)).left.row) none ∙ digest ws h

  empty_row : (pending outputs squeeze : List ℕ) → pending ≡ [] → outputs ≡ [] → squeeze ≡ []
      → (sample_of sampled (make_meaning s) (multi_held (items s.sponge.row) pending outputs squeeze)).left.row ≡ (empty_turn (make_meaning s) (items s.sponge.row)).row
  unfolding sample_of with_scalar after_fill after_flush_if_pending with_outputs
  empty_row pending outputs squeeze none gone split = rw (none, gone, split) refl

  pub row_is : (given : Option Numbers) → multi_takes sampled (make_meaning s) (held_value s) given ≡ true
      → (multi_after_given sampled (make_meaning s) (held_value s) given).row ≡ (after_given sampled (make_meaning s) (items s.sponge.row) given).row
  row_is None h =
      empty_row (items s.pending) (items s.sponge.outputs) (items s.squeeze) (none_pending None h) (none_of (items s.sponge.outputs) (outputs_drained None h))
      (none_of (items s.squeeze) (squeeze_drained None h))
  row_is (Some (codes xs)) h = let no = is_given (Some (codes xs)) h in cc
  row_is (Some (scalars xs)) h =
      observed_row (items s.pending) (items s.sponge.outputs) (items s.squeeze) xs (none_pending (Some (scalars xs)) h) (scalars_list sampled order s.sponge.rate xs (is_given (Some (scalars xs)) h))
  row_is (Some (words ws)) h = digest_row (items s.pending) (items s.sponge.outputs) (items s.squeeze) ws (none_pending (Some (words ws)) h) (is_given (Some (words ws)) h)

-- two challengers of one make with equal rows, after unlike turns: `left` and `right` are what they hold
module _ {F D P G E Q : Type 0} {sampled order : ℕ} {f : DomainGhosts F sampled} {d : DomainGhosts D order} {p : PermutationGhosts P D order} {g : DomainGhosts G sampled} {e : DomainGhosts E order} {q : PermutationGhosts Q E order} (high : order < 2 ^ 64)
    (s : MultiField32Challenger F D P sampled order f d p) (t : MultiField32Challenger G E Q sampled order g e q) where
  pub both_apart : (left right : MultiHeld) (a b : Option Numbers)
      → multi_takes sampled (make_meaning s) (held_value s) a ≡ true → multi_takes sampled (make_meaning t) (held_value t) b ≡ true
      → left ≡ multi_after_given sampled (make_meaning s) (held_value s) a → right ≡ multi_after_given sampled (make_meaning t) (held_value t) b
      → SameSponge (make_meaning s) (make_meaning t) → (held_value s).row ≡ (held_value t).row → AreUnlike a b → left.row ≢ right.row
  both_apart left right a b ha hb l r same rows unlike =
      rows_apart s.sponge t.sponge sampled f.arithmetic.low a b (taken-turn high s a (is_given high s a ha)) (taken-turn high t b (is_given high t b hb)) left.row right.row
      (ap (λ (h : MultiHeld). h.row) l ∙ row_is high s a ha) (ap (λ (h : MultiHeld). h.row) r ∙ row_is high t b hb) same rows unlike
