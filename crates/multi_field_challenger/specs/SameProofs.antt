-- Proof only, not to be read to believe a contract: what the rules make of a value that can be held can be held, and challengers of one make do the same to it.
use Rattle.std.specs.Prelude.{◌≡◌, ℕ, zero, suc, ◌*◌, ◌%◌, ◌^◌, ◌<◌, ◌≤◌, true, ◌&&◌, List, [], ◌∷◌, ◌++◌, length, Ok, ◌==◌, nat_le, nat_lt, if◌then◌else◌, IsTrue, refl}
use Rattle.std.proofs.Common.{sym, ap, ◌∙◌, inl, inr, arith}
use Rattle.std.proofs.lemmas.Nat.{mul-le}
use Rattle.std.proofs.lemmas.List.{length-append}
use Rattle.std.proofs.lemmas.Bool.{and_parts, and_from, leb-true, ltb-true, lt-ltb, eqb-false, cases_Bool, cond-true, cond-false, cond_both}
use Rattle.domain.specs.Codes.{all_codes}
use Rattle.permutation.specs.Rows.{HasOnlyCodes, IsLawful}
use Rattle.permutation.specs.RowsProofs.{all_codes-codes, codes-all_codes}
use Rattle.challenger_traits.specs.Meaning.{Reply, reply, observe_of}
use Rattle.challenger_traits.specs.ObservingProofs.{observe_codes-held, observe_codes-same}
use Rattle.challenger_traits.specs.SameMeansProofs.{SameMeans}
use Rattle.runs.specs.declared.call.Call.TheVariants.{ObserveDigest, Sample}
use Rattle.runs.specs.declared.answer.Answer.TheVariants.{Code}
use Rattle.runs.specs.Answers.{as_done, answer_reply}
use Rattle.runs.specs.Runs.{SameRules}
use Rattle.runs.specs.InterfaceProofs.{interface_same}
use Rattle.sponge.specs.Sponge.{SpongeMake, SpongeState, empty_turn, block_turn, last_output}
use Rattle.sponge.specs.SameSponge.{SameSponge, is_row_of}
use Rattle.sponge.specs.AbsorbingProofs.{Words}
use Rattle.sponge.specs.SameSpongeProofs.{below_from, codes-append-one, some_rate, rate_below, width_few, empty_turn-same, empty_turn-row, block_turn-same, block_turn-row}
use Rattle.code_bits.specs.CodeBits.{code_bits}
use Rattle.packing.specs.Powers.{limbs, digits}
use Rattle.packing.specs.Packing.{packed_words, digits_of_all, group, groups}
use Rattle.packing.specs.PackingProofs.{limbs-some, group-length, group-codes, groups-few, packed_words-length, packed_words-codes}
use Rattle.multi_field_blocks.specs.Blocks.{scalars_block_turn, with_outputs, after_groups}
use Rattle.multi_field_challenger.specs.declared.held.MultiHeld.{MultiHeld}
use Rattle.multi_field_challenger.specs.Rules.{multi_held, multi_held_with, sponge_of, after_flush, after_flush_if_pending, after_code, after_digest, after_observe_digest, after_fill, with_scalar, without_scalar, sample_of, means, final_rate}
use Rattle.multi_field_challenger.specs.Holds.{is_pair, can_be_held}
use Rattle.multi_field_challenger.specs.Calls.{own_rule, rule}
use Rattle.refusal.specs.declared.limits.TheConstants.{GREATEST_SAMPLED_ORDER, LONGEST_BATCH}

-- a number that tags a block
abbrev IsTag : {order : ℕ} → SpongeMake order → ℕ → Type 0
IsTag {order} k n = n < order

-- so many scalars or words do
is_tag : {order : ℕ} (k : SpongeMake order) (n : ℕ) → n ≤ LONGEST_BATCH → IsTag k n
is_tag k n few = omega (arith, few, k.arithmetic.low)

module _ {order : ℕ} (k : SpongeMake order) where
  -- a group of words is a block
  module _ (row ws : List ℕ) (n : ℕ) (is : IsTrue (is_row_of k row)) (codes : HasOnlyCodes order ws) where
    group-words : Words order k.rate (group k.rate ws n)
    group-words = record { few = omega (arith, group-length k.rate (some_rate k row is) ws n); codes = group-codes k.rate (some_rate k row is) order ws n codes }

    group-tag : IsTag k (length (group k.rate ws n))
    group-tag = is_tag k (length (group k.rate ws n)) (omega (arith, group-words.few, rate_below k row is, width_few k row is))

  after_groups-row : IsLawful order k.image → (s : SpongeState) (ws : List ℕ) (n : ℕ) → IsTrue (is_row_of k s.row) → HasOnlyCodes order ws → is_row_of k (after_groups k s ws n).row ≡ true
  after_groups-row lawful s ws zero is codes = is
  after_groups-row lawful s ws (suc n) is codes =
      let row = (after_groups k s ws n).row in
      let before = after_groups-row lawful s ws n is codes in
      block_turn-row k row before lawful (group k.rate ws n) _ (group-words row ws n before codes) (group-tag row ws n before codes)

  with_outputs-row : IsLawful order k.image → (s : SpongeState) → IsTrue (is_row_of k s.row) → is_row_of k (with_outputs k s).row ≡ true
  unfolding with_outputs
  with_outputs-row lawful s is = cond_both (length s.outputs == 0) _ _ (λ (t : SpongeState). is_row_of k t.row ≡ true) (λ e. empty_turn-row k s.row is lawful) (λ e. is)

module _ {order : ℕ} (sampled : ℕ) (k : SpongeMake order) where
  -- what a pair of orders obeys
  record Pair : Type 0 where
    pub small : sampled ≤ GREATEST_SAMPLED_ORDER
    pub less : sampled < order
    pub batch : limbs sampled order * k.rate ≤ LONGEST_BATCH

  is_a_pair : IsTrue (is_pair sampled order k.rate) → Pair
  is_a_pair ok =
      let later = (and_parts (nat_le sampled GREATEST_SAMPLED_ORDER) _ ok).1 in
      record {
        small = leb-true sampled GREATEST_SAMPLED_ORDER (and_parts (nat_le sampled GREATEST_SAMPLED_ORDER) _ ok).0;
        less = ltb-true sampled order (and_parts (nat_lt sampled order) _ later).0;
        batch = leb-true (limbs sampled order * k.rate) LONGEST_BATCH (and_parts (nat_lt sampled order) _ later).1;
      }

  -- what a held value obeys; where limbs times RATE scalars are pending, a flush comes
  record Obeys (h : MultiHeld) : Type 0 where
    pub row : IsTrue (is_row_of k h.row)
    pub pair : IsTrue (is_pair sampled order k.rate)
    pub few : length h.pending ≤ limbs sampled order * k.rate
    pub codes : HasOnlyCodes sampled h.pending

  module _ (h : MultiHeld) (ok : IsTrue (can_be_held sampled k h)) where
    pub row_held : IsTrue (is_row_of k h.row)
    row_held = (and_parts (is_row_of k h.row) _ ok).0

    later : is_pair sampled order k.rate && (nat_lt (length h.pending) (limbs sampled order * k.rate) && all_codes sampled h.pending) ≡ true
    later = (and_parts (is_row_of k h.row) _ ok).1

    pub pair_held : IsTrue (is_pair sampled order k.rate)
    pair_held = (and_parts (is_pair sampled order k.rate) _ later).0

    pending_held : nat_lt (length h.pending) (limbs sampled order * k.rate) && all_codes sampled h.pending ≡ true
    pending_held = (and_parts (is_pair sampled order k.rate) _ later).1

    fewer : length h.pending < limbs sampled order * k.rate
    fewer = ltb-true (length h.pending) (limbs sampled order * k.rate) (and_parts (nat_lt (length h.pending) _) _ pending_held).0

    obeys : Obeys h
    obeys = record {
      row = row_held;
      pair = pair_held;
      few = omega (arith, fewer);
      codes = all_codes-codes sampled h.pending (and_parts (nat_lt (length h.pending) (limbs sampled order * k.rate)) _ pending_held).1;
    }

  pub held_from : (h : MultiHeld) → IsTrue (is_row_of k h.row) → IsTrue (is_pair sampled order k.rate) → length h.pending < limbs sampled order * k.rate → HasOnlyCodes sampled h.pending
      → can_be_held sampled k h ≡ true
  held_from h row pair few codes =
      and_from (is_row_of k h.row) _ row
      (and_from (is_pair sampled order k.rate) _ pair
      (and_from (nat_lt (length h.pending) (limbs sampled order * k.rate)) _ (lt-ltb (length h.pending) _ few) (codes-all_codes sampled h.pending codes)))

  -- a scalar more is pending
  more : MultiHeld → ℕ → MultiHeld
  more h c = multi_held h.row (h.pending ++ (c ∷ [])) [] []

  more-obeys : (h : MultiHeld) (c : ℕ) → IsTrue (can_be_held sampled k h) → c < sampled → Obeys (more h c)
  unfolding more
  more-obeys h c ok lt = record {
    row = row_held h ok;
    pair = pair_held h ok;
    few = omega (arith, fewer h ok, length-append h.pending (c ∷ []));
    codes = codes-append-one h.pending c (obeys h ok).codes lt;
  }

  after_fill-held : IsLawful order k.image → (h : MultiHeld) → IsTrue (can_be_held sampled k h) → IsTrue (can_be_held sampled k (after_fill sampled k h))
  unfolding after_fill
  after_fill-held lawful h ok =
      held_from (after_fill sampled k h) (with_outputs-row k lawful (sponge_of h) (row_held h ok)) (pair_held h ok) (fewer h ok) (obeys h ok).codes

-- a sampled domain has two codes or more, so that they pack into words
module _ {order : ℕ} (sampled : ℕ) (low : 256 ≤ sampled) (k : SpongeMake order) where
  -- where nothing is pending
  none_pending : (s : SpongeState) → IsTrue (is_row_of k s.row) → IsTrue (is_pair sampled order k.rate) → IsTrue (can_be_held sampled k (multi_held_with s [] []))
  none_pending s is pair =
      let p = is_a_pair sampled k pair in
      let one = mul-le 1 1 (limbs sampled order) k.rate (limbs-some sampled order (omega arith) p.small p.less k.arithmetic.high) (some_rate k s.row is) in
      held_from sampled k (multi_held_with s [] []) is pair (omega (arith, one)) (λ i lt. absurd (omega (arith, lt)))

  -- what a block of pending scalars is
  module _ (h : MultiHeld) (o : Obeys sampled k h) where
    words : Words order k.rate (packed_words (code_bits sampled) (limbs sampled order) h.pending)
    words =
        let p = is_a_pair sampled k o.pair in
        let some = limbs-some sampled order (omega arith) p.small p.less k.arithmetic.high in
        record {
          few = omega (arith, packed_words-length (limbs sampled order) some (code_bits sampled) h.pending, groups-few (limbs sampled order) some k.rate h.pending o.few);
          codes = packed_words-codes sampled order (omega arith) p.small p.less k.arithmetic.high h.pending o.codes;
        }

    tag : IsTag k (length h.pending)
    tag = is_tag k (length h.pending) (omega (arith, o.few, (is_a_pair sampled k o.pair).batch))

  module _ (lawful : IsLawful order k.image) where
    after_flush-held : (h : MultiHeld) → Obeys sampled k h → IsTrue (can_be_held sampled k (after_flush sampled k h))
    unfolding after_flush
    after_flush-held h o = none_pending (scalars_block_turn sampled k h.row h.pending) (block_turn-row k h.row o.row lawful _ (length h.pending) (words h o) (tag h o)) o.pair

    after_flush_if_pending-held : (h : MultiHeld) → IsTrue (can_be_held sampled k h) → IsTrue (can_be_held sampled k (after_flush_if_pending sampled k h))
    unfolding after_flush_if_pending
    after_flush_if_pending-held h ok =
        cond_both (nat_lt 0 (length h.pending)) _ _ (λ g. IsTrue (can_be_held sampled k g)) (λ e. after_flush-held h (obeys sampled k h ok)) (λ e. ok)

    after_code-held : (h : MultiHeld) (c : ℕ) → IsTrue (can_be_held sampled k h) → c < sampled → IsTrue (can_be_held sampled k (after_code sampled k h c))
    unfolding after_code more
    after_code-held h c ok lt =
        let o = more-obeys sampled k h c ok lt in
        cond_both (length (more sampled k h c).pending == limbs sampled order * k.rate) _ _ (λ g. IsTrue (can_be_held sampled k g))
        (λ e. after_flush-held (more sampled k h c) o)
        (λ e. let ne = eqb-false (length (more sampled k h c).pending) (limbs sampled order * k.rate) e in held_from sampled k (more sampled k h c) o.row o.pair (below_from o.few ne) o.codes)

    with_scalar-held : (h : MultiHeld) → IsTrue (can_be_held sampled k h) → IsTrue (can_be_held sampled k (with_scalar sampled k h))
    unfolding with_scalar
    with_scalar-held h ok =
        let flushed = after_flush_if_pending-held h ok in
        cond_both (length (after_flush_if_pending sampled k h).squeeze == 0) _ _ (λ g. IsTrue (can_be_held sampled k g)) (λ e. after_fill-held sampled k lawful _ flushed) (λ e. flushed)

    sample_of-held : (h : MultiHeld) → IsTrue (can_be_held sampled k h) → IsTrue (can_be_held sampled k (sample_of sampled k h).left)
    unfolding sample_of
    sample_of-held h ok = with_scalar-held h ok

module _ {order : ℕ} (sampled : ℕ) (low : 256 ≤ sampled) (k l : SpongeMake order) (same : SameSponge k l) (lawful : IsLawful order k.image) where
  after_flush-same : (h : MultiHeld) → Obeys sampled k h → after_flush sampled k h ≡ after_flush sampled l h
  unfolding after_flush
  after_flush-same h o =
      ap (λ s. multi_held_with s [] [])
      (block_turn-same k l same lawful h.row o.row (packed_words (code_bits sampled) (limbs sampled order) h.pending) (length h.pending) (words sampled low k h o) (tag sampled low k h o))

  after_flush_if_pending-same : (h : MultiHeld) → IsTrue (can_be_held sampled k h) → after_flush_if_pending sampled k h ≡ after_flush_if_pending sampled l h
  unfolding after_flush_if_pending
  after_flush_if_pending-same h ok = ap (λ g. if nat_lt 0 (length h.pending) then g else h) (after_flush-same h (obeys sampled k h ok))

  after_code-same : (h : MultiHeld) (c : ℕ) → IsTrue (can_be_held sampled k h) → c < sampled → after_code sampled k h c ≡ after_code sampled l h c
  unfolding after_code more
  after_code-same h c ok lt =
      let g = more sampled k h c in
      ap (λ f. if length g.pending == limbs sampled order * k.rate then f else g) (after_flush-same g (more-obeys sampled k h c ok lt))
      ∙ ap (λ n. if length g.pending == limbs sampled order * n then after_flush sampled l g else g) same.rate

  after_groups-same : (s : SpongeState) (ws : List ℕ) (n : ℕ) → IsTrue (is_row_of k s.row) → HasOnlyCodes order ws → after_groups k s ws n ≡ after_groups l s ws n
  after_groups-same s ws zero is codes = refl
  after_groups-same s ws (suc n) is codes =
      let row = (after_groups k s ws n).row in
      let before = after_groups-row k lawful s ws n is codes in
      block_turn-same k l same lawful row before (group k.rate ws n) _ (group-words k row ws n before codes) (group-tag k row ws n before codes)
      ∙ ap (λ m. block_turn l row (group m ws n) (length (group m ws n))) same.rate
      ∙ ap (λ (t : SpongeState). block_turn l t.row (group l.rate ws n) (length (group l.rate ws n))) (after_groups-same s ws n is codes)

  -- a digest, whose lists were dropped
  after_digest-same : (h : MultiHeld) (ws : List ℕ) → IsTrue (can_be_held sampled k h) → HasOnlyCodes order ws → after_digest sampled k h ws ≡ after_digest sampled l h ws
  unfolding after_digest
  after_digest-same h ws ok codes =
      let dropped = multi_held h.row h.pending [] [] in
      let f = after_flush_if_pending sampled k dropped in
      let flushed = after_flush_if_pending-held sampled low k lawful dropped ok in
      ap (λ s. multi_held_with s [] [])
      (after_groups-same (sponge_of f) ws (groups k.rate ws) (row_held sampled k f flushed) codes
      ∙ ap (λ n. after_groups l (sponge_of f) ws (groups n ws)) same.rate
      ∙ ap (λ (g : MultiHeld). after_groups l (sponge_of g) ws (groups l.rate ws)) (after_flush_if_pending-same dropped ok))

  after_digest-held : (h : MultiHeld) (ws : List ℕ) → IsTrue (can_be_held sampled k h) → HasOnlyCodes order ws → IsTrue (can_be_held sampled k (after_digest sampled k h ws))
  unfolding after_digest
  after_digest-held h ws ok codes =
      let dropped = multi_held h.row h.pending [] [] in
      let f = after_flush_if_pending sampled k dropped in
      let flushed = after_flush_if_pending-held sampled low k lawful dropped ok in
      let s = after_groups k (sponge_of f) ws (groups k.rate ws) in
      none_pending sampled low k s (after_groups-row k lawful (sponge_of f) ws (groups k.rate ws) (row_held sampled k f flushed) codes) (pair_held sampled k h ok)

  after_observe_digest-same : (h : MultiHeld) (ws : List ℕ) → IsTrue (can_be_held sampled k h) → after_observe_digest sampled k h ws ≡ after_observe_digest sampled l h ws
  after_observe_digest-same h ws ok =
      elim (cases_Bool (all_codes order ws)) [
        | inl t ↦ (cond-true (all_codes order ws) _ _ t ∙ ap Ok (after_digest-same h ws ok (all_codes-codes order ws t)) ∙ sym (cond-true (all_codes order ws) _ _ t))
        | inr f ↦ (cond-false (all_codes order ws) _ _ f ∙ sym (cond-false (all_codes order ws) _ _ f))
      ]

  with_outputs-same : (s : SpongeState) → IsTrue (is_row_of k s.row) → with_outputs k s ≡ with_outputs l s
  unfolding with_outputs
  with_outputs-same s is = ap (λ t. if length s.outputs == 0 then t else s) (empty_turn-same k l same lawful s.row is)

  after_fill-same : (h : MultiHeld) → IsTrue (can_be_held sampled k h) → after_fill sampled k h ≡ after_fill sampled l h
  unfolding after_fill
  after_fill-same h ok =
      ap (λ (s : SpongeState). multi_held s.row h.pending [] (digits_of_all sampled (digits sampled order) s.outputs)) (with_outputs-same (sponge_of h) (row_held sampled k h ok))

  with_scalar-same : (h : MultiHeld) → IsTrue (can_be_held sampled k h) → with_scalar sampled k h ≡ with_scalar sampled l h
  unfolding with_scalar
  with_scalar-same h ok =
      let f = after_flush_if_pending sampled k h in
      ap (λ g. if length f.squeeze == 0 then g else f) (after_fill-same f (after_flush_if_pending-held sampled low k lawful h ok))
      ∙ ap (λ (g : MultiHeld). if length g.squeeze == 0 then after_fill sampled l g else g) (after_flush_if_pending-same h ok)

  sample_of-same : (h : MultiHeld) → IsTrue (can_be_held sampled k h) → sample_of sampled k h ≡ sample_of sampled l h
  unfolding sample_of
  sample_of-same h ok = ap (λ (g : MultiHeld). reply (last_output g.squeeze) (without_scalar sampled k g)) (with_scalar-same h ok)

  pub final_rate-same : (h : MultiHeld) → IsTrue (can_be_held sampled k h) → final_rate sampled k h ≡ final_rate sampled l h
  unfolding final_rate
  final_rate-same h ok =
      ap (λ (g : MultiHeld). if nat_lt 0 (length h.pending) then g.outputs else (empty_turn k h.row).outputs) (after_flush-same h (obeys sampled k h ok))
      ∙ ap (λ (s : SpongeState). if nat_lt 0 (length h.pending) then (after_flush sampled l h).outputs else s.outputs) (empty_turn-same k l same lawful h.row (row_held sampled k h ok))

  same_means : SameMeans (can_be_held sampled k) (means sampled k) (means sampled l)
  same_means = record {
    order = refl;
    observes = observe_codes-same sampled (after_code sampled k) (can_be_held sampled k) (after_code-held sampled low k lawful)
        (after_code sampled l) after_code-same;
    observed = observe_codes-held sampled (after_code sampled k) (can_be_held sampled k) (after_code-held sampled low k lawful);
    value = λ h b ok. ap (λ (r : Reply ℕ MultiHeld). r.said % 2 ^ b) (sample_of-same h ok);
    after = λ h b ok. ap (λ (r : Reply ℕ MultiHeld). r.left) (sample_of-same h ok);
    start = λ h ok. refl;
    started = λ h ok. ok;
  }

  own_same : SameRules (can_be_held sampled k) (own_rule sampled k) (own_rule sampled l)
  own_same h (ObserveDigest ws) ok = ap (λ r. answer_reply as_done (observe_of r h)) (after_observe_digest-same h ws.now ok)
  own_same h Sample ok = ap (answer_reply Code) (sample_of-same h ok)
  own_same h _ ok = refl

  -- calls mean the same to challengers of one make
  pub rules_same : SameRules (can_be_held sampled k) (rule sampled k) (rule sampled l)
  rules_same = interface_same (can_be_held sampled k) (means sampled k) (means sampled l) same_means (own_rule sampled k) (own_rule sampled l) own_same
