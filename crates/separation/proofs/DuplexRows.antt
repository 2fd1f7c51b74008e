-- The row of a duplex challenger that was given a block.
use Rattle.std.proofs.Common.{◌≡◌, ℕ, ◌+◌, ◌<◌, true, ◌&&◌, ◌≢◌, eqb, List, [], ◌∷◌, ◌++◌, length, Some, None, Option, refl, ap, ◌∙◌, arith, lit≤}
use Rattle.std.proofs.lemmas.List.{length-append}
use Rattle.std.proofs.lemmas.Bool.{and_parts, cond-false, ne_eqb}
use Rattle.domain.specs.declared.Domain.{Ghosts as DomainGhosts}
use Rattle.permutation.specs.declared.CryptographicPermutation.{Ghosts as PermutationGhosts}
use Rattle.buffer.specs.Items.{items}
use Rattle.sponge.specs.Sponge.{SpongeState, empty_turn, after_turn as sponge_after_turn}
use Rattle.sponge.specs.SameSponge.{SameSponge}
use Rattle.sponge.proofs.Turning.{length_code, block-full}
use Rattle.challenger_traits.specs.Observing.{after_codes}
use Rattle.duplex_challenger.specs.declared.DuplexChallenger.{DuplexChallenger}
use Rattle.duplex_challenger.specs.declared.held.DuplexHeld.{DuplexHeld}
use Rattle.duplex_challenger.specs.Rules.{duplex_held, after_turn, after_code, with_output, sample_of}
use Rattle.duplex_challenger.specs.Holds.{held_value, make_meaning}
use Rattle.duplex_challenger.proofs.Prepared.{with_output_is}
use Rattle.sponge.specs.Tags.{Numbers, codes, scalars, words}
use Rattle.separation.specs.Blocks.{is_list_of_codes, is_turn, after_given}
use Rattle.separation.specs.Separation.{AreUnlike}
use Rattle.separation.specs.Given.{is_empty_unless_given, is_duplex_turn, duplex_takes, duplex_after_given}
use Rattle.separation.proofs.BlockKinds.{list_some, list_few, list-words, written, rows_apart}
use Rattle.separation.proofs.Observed.{observed, none_of}

module _ {D P : Type 0} {order : ℕ} {d : DomainGhosts D order} {p : PermutationGhosts P D order} (s : DuplexChallenger D P order d p) where
  -- these codes are pending, and no output is left
  abbrev hold : List ℕ → DuplexHeld
  hold xs = duplex_held (items s.sponge.row) xs []

  waits : (xs : List ℕ) (c : ℕ) → length xs + 1 < s.sponge.rate → after_code (make_meaning s) (hold xs) c ≡ hold (xs ++ (c ∷ []))
  unfolding after_code
  waits xs c less = cond-false _ _ _ (ne_eqb (length (xs ++ (c ∷ []))) s.sponge.rate (λ e. omega (arith, length-append xs (c ∷ []))))

  ends : (xs : List ℕ) (c : ℕ) → is_list_of_codes order s.sponge.rate (xs ++ (c ∷ [])) ≡ true
      → (sample_of (make_meaning s) (after_code (make_meaning s) (hold xs) c)).left.row ≡ (sponge_after_turn (make_meaning s) (items s.sponge.row) (xs ++ (c ∷ []))).row
  unfolding sample_of after_turn
  ends xs c h =
      let k = make_meaning s in
      let all = xs ++ (c ∷ []) in
      let few = list_few order s.sponge.rate all h in
      let full = block-full s.sponge all (length all) (list-words order s.sponge.rate all h) (length_code s.sponge (length all) few) in
      let turn : after_given 256 k (items s.sponge.row) (Some (codes all)) ≡ _ = written 256 k (items s.sponge.row) (codes all) h in
      ap (λ (g : DuplexHeld). g.row) (with_output_is k (hold xs) c (omega (arith, ap (λ (u : SpongeState). length u.outputs) turn, full, s.sponge.some)))

  -- what was asked of the challenger
  module _ (given : Option Numbers) (h : duplex_takes (make_meaning s) (held_value s) given ≡ true) where
    none_pending : items s.pending ≡ []
    none_pending = none_of (items s.pending) (and_parts (eqb (length (items s.pending)) 0) _ h).0

    drained_and : is_empty_unless_given given (items s.sponge.outputs) && is_duplex_turn order s.sponge.rate given ≡ true
    drained_and = (and_parts (eqb (length (items s.pending)) 0) _ h).1

    drained : is_empty_unless_given given (items s.sponge.outputs) ≡ true
    drained = (and_parts (is_empty_unless_given given (items s.sponge.outputs)) _ drained_and).0

    is_given : is_duplex_turn order s.sponge.rate given ≡ true
    is_given = (and_parts (is_empty_unless_given given (items s.sponge.outputs)) _ drained_and).1

  -- a turn of a duplex challenger is a turn of its sponge
  pub taken-turn : (sampled : ℕ) (given : Option Numbers) → is_duplex_turn order s.sponge.rate given ≡ true → is_turn sampled order s.sponge.rate given ≡ true
  taken-turn sampled None h = refl
  taken-turn sampled (Some (codes xs)) h = h
  taken-turn sampled (Some (scalars xs)) h = cc
  taken-turn sampled (Some (words xs)) h = cc

  -- codes that are observed drop the outputs
  observed_row : (pending outputs xs : List ℕ) → pending ≡ [] → is_list_of_codes order s.sponge.rate xs ≡ true
      → (sample_of (make_meaning s) (after_codes (after_code (make_meaning s)) (duplex_held (items s.sponge.row) pending outputs) xs)).left.row ≡ (sponge_after_turn (make_meaning s) (items s.sponge.row) xs).row
  unfolding after_code
  observed_row pending outputs [] none h = absurd (omega (arith, list_some order s.sponge.rate [] h))
  observed_row pending outputs (c ∷ cs) none h =
      let k = make_meaning s in
      ap (λ ps. (sample_of k (after_codes (after_code k) (after_code k (duplex_held (items s.sponge.row) ps []) c) cs)).left.row) none
      ∙ observed order s.sponge.rate (after_code k) hold (λ g. (sample_of k g).left.row) (λ xs. (sponge_after_turn k (items s.sponge.row) xs).row) waits ends (c ∷ cs) h

  empty_row : (pending outputs : List ℕ) → pending ≡ [] → outputs ≡ []
      → (sample_of (make_meaning s) (duplex_held (items s.sponge.row) pending outputs)).left.row ≡ (empty_turn (make_meaning s) (items s.sponge.row)).row
  unfolding sample_of with_output after_turn
  empty_row pending outputs none gone = rw (none, gone) refl

  pub row_is : (sampled : ℕ) (given : Option Numbers) → duplex_takes (make_meaning s) (held_value s) given ≡ true
      → (duplex_after_given (make_meaning s) (held_value s) given).row ≡ (after_given sampled (make_meaning s) (items s.sponge.row) given).row
  row_is sampled None h = empty_row (items s.pending) (items s.sponge.outputs) (none_pending None h) (none_of (items s.sponge.outputs) (drained None h))
  row_is sampled (Some (codes xs)) h = observed_row (items s.pending) (items s.sponge.outputs) xs (none_pending (Some (codes xs)) h) (is_given (Some (codes xs)) h)
  row_is sampled (Some (scalars xs)) h = let no = is_given (Some (scalars xs)) h in cc
  row_is sampled (Some (words xs)) h = let no = is_given (Some (words xs)) h in cc

-- two challengers of one make with equal rows, after unlike turns: `left` and `right` are what they hold
module _ {D P E Q : Type 0} {order : ℕ} {d : DomainGhosts D order} {p : PermutationGhosts P D order} {e : DomainGhosts E order} {q : PermutationGhosts Q E order} (s : DuplexChallenger D P order d p) (t : DuplexChallenger E Q order e q) where
  pub both_apart : (left right : DuplexHeld) (a b : Option Numbers)
      → duplex_takes (make_meaning s) (held_value s) a ≡ true → duplex_takes (make_meaning t) (held_value t) b ≡ true
      → left ≡ duplex_after_given (make_meaning s) (held_value s) a → right ≡ duplex_after_given (make_meaning t) (held_value t) b
      → SameSponge (make_meaning s) (make_meaning t) → (held_value s).row ≡ (held_value t).row → AreUnlike a b → left.row ≢ right.row
  both_apart left right a b ha hb l r same rows unlike =
      rows_apart s.sponge t.sponge 256 (lit≤ tt) a b (taken-turn s 256 a (is_given s a ha)) (taken-turn t 256 b (is_given t b hb)) left.row right.row
      (ap (λ (g : DuplexHeld). g.row) l ∙ row_is s 256 a ha) (ap (λ (g : DuplexHeld). g.row) r ∙ row_is t 256 b hb) same rows unlike
