-- Proof only, not to be read to believe a contract: what the rules make of a value that can be held can be held, and challengers of one make do the same to it.
use Rattle.std.specs.Prelude.{◌≡◌, ℕ, ◌%◌, ◌^◌, ◌<◌, ◌≤◌, true, ◌&&◌, ◌||◌, List, [], ◌∷◌, ◌++◌, length, Ok, ◌==◌, nat_lt, if◌then◌else◌, IsTrue, refl}
use Rattle.std.proofs.Common.{ap, ◌∙◌, mod-lt, arith}
use Rattle.std.proofs.lemmas.List.{length-append}
use Rattle.std.proofs.lemmas.Bool.{and_parts, and_from, ltb-true, lt-ltb, eqb-false, cond_both}
use Rattle.domain.specs.Codes.{all_codes}
use Rattle.permutation.specs.Rows.{HasOnlyCodes, IsLawful}
use Rattle.permutation.specs.RowsProofs.{all_codes-codes, codes-all_codes}
use Rattle.challenger_traits.specs.Meaning.{Reply, reply, observe_of}
use Rattle.challenger_traits.specs.ObservingProofs.{observe_codes-held, observe_codes-same}
use Rattle.challenger_traits.specs.SameMeansProofs.{SameMeans}
use Rattle.sampling.specs.SameDrawsProofs.{SameDraws, uniform-same}
use Rattle.sampling.specs.Uniform.{uniform_of}
use Rattle.runs.specs.declared.call.Call.TheVariants.{ObserveDigest, ObserveBytes, ObserveDigestBytes, Sample, UniformBits}
use Rattle.runs.specs.declared.answer.Answer.TheVariants.{Code}
use Rattle.runs.specs.Answers.{as_done, as_bits, answer_reply}
use Rattle.runs.specs.Runs.{SameRules}
use Rattle.runs.specs.InterfaceProofs.{interface_same}
use Rattle.sponge.specs.Sponge.{SpongeMake, last_output}
use Rattle.sponge.specs.Sponge.{after_turn as sponge_after_turn}
use Rattle.sponge.specs.SameSponge.{SameSponge, is_row_of}
use Rattle.sponge.specs.AbsorbingProofs.{Words}
use Rattle.sponge.specs.SameSpongeProofs.{below_from, codes-append-one, some_rate, rate_below, width_few, empty_turn-same, empty_turn-row, block_turn-same, block_turn-row}
use Rattle.duplex_challenger.specs.declared.held.DuplexHeld.{DuplexHeld}
use Rattle.duplex_challenger.specs.Rules.{duplex_held, with_none_pending, after_turn, after_code, after_observe, with_output, without_output, sample_of, means, final_rate}
use Rattle.duplex_challenger.specs.Holds.{can_be_held}
use Rattle.duplex_challenger.specs.Calls.{own_rule, rule}

module _ {order : ℕ} (k : SpongeMake order) where
  -- what a held value obeys; `most` pending codes, which is one less than RATE but while a code is taken
  pub record Obeys (most : ℕ) (h : DuplexHeld) : Type 0 where
    pub row : IsTrue (is_row_of k h.row)
    pub few : length h.pending ≤ most
    pub codes : HasOnlyCodes order h.pending

  pub row_held : (h : DuplexHeld) → IsTrue (can_be_held k h) → IsTrue (is_row_of k h.row)
  row_held h ok = (and_parts (is_row_of k h.row) _ ok).0

  pending_held : (h : DuplexHeld) → IsTrue (can_be_held k h) → (nat_lt (length h.pending) k.rate && all_codes order h.pending) ≡ true
  pending_held h ok = (and_parts (is_row_of k h.row) _ ok).1

  fewer : (h : DuplexHeld) → IsTrue (can_be_held k h) → length h.pending < k.rate
  fewer h ok = ltb-true (length h.pending) k.rate (and_parts (nat_lt (length h.pending) k.rate) _ (pending_held h ok)).0

  pub obeys : (h : DuplexHeld) → IsTrue (can_be_held k h) → Obeys k.rate h
  obeys h ok = record {
    row = row_held h ok;
    few = omega (arith, fewer h ok);
    codes = all_codes-codes order h.pending (and_parts (nat_lt (length h.pending) k.rate) _ (pending_held h ok)).1;
  }

  pub held_from : (h : DuplexHeld) → IsTrue (is_row_of k h.row) → length h.pending < k.rate → HasOnlyCodes order h.pending → can_be_held k h ≡ true
  held_from h row few codes =
      and_from (is_row_of k h.row) _ row (and_from (nat_lt (length h.pending) k.rate) _ (lt-ltb (length h.pending) k.rate few) (codes-all_codes order h.pending codes))

  -- what a block of pending codes is
  module _ (h : DuplexHeld) (o : Obeys k.rate h) where
    words : Words order k.rate h.pending
    words = record { few = o.few; codes = o.codes }

    tag : length h.pending < order
    tag = omega (arith, o.few, rate_below k h.row o.row, width_few k h.row o.row, k.arithmetic.low)

  turn-row : (row xs : List ℕ) → IsTrue (is_row_of k row) → IsLawful order k.image → Words order k.rate xs → length xs < order → is_row_of k (sponge_after_turn k row xs).row ≡ true
  turn-row row [] ok lawful w t = empty_turn-row k row ok lawful
  turn-row row (x ∷ xs) ok lawful w t = block_turn-row k row ok lawful (x ∷ xs) (length (x ∷ xs)) w t

  after_turn-held : IsLawful order k.image → (h : DuplexHeld) → Obeys k.rate h → IsTrue (can_be_held k (after_turn k h))
  unfolding after_turn
  after_turn-held lawful h o =
      held_from (after_turn k h) (turn-row h.row h.pending o.row lawful (words h o) (tag h o)) (omega (arith, some_rate k h.row o.row)) (λ i lt. absurd (omega (arith, lt)))

  -- a code more is pending
  more : DuplexHeld → ℕ → DuplexHeld
  more h c = duplex_held h.row (h.pending ++ (c ∷ [])) []

  more-obeys : (h : DuplexHeld) (c : ℕ) → IsTrue (can_be_held k h) → c < order → Obeys k.rate (more h c)
  unfolding more
  more-obeys h c ok lt = record {
    row = row_held h ok;
    few = omega (arith, fewer h ok, length-append h.pending (c ∷ []));
    codes = codes-append-one h.pending c (obeys h ok).codes lt;
  }

  after_code-held : IsLawful order k.image → (h : DuplexHeld) (c : ℕ) → IsTrue (can_be_held k h) → c < order → IsTrue (can_be_held k (after_code k h c))
  unfolding after_code more
  after_code-held lawful h c ok lt =
      let o = more-obeys h c ok lt in
      cond_both (length (more h c).pending == k.rate) _ _ (λ g. IsTrue (can_be_held k g))
      (λ e. after_turn-held lawful (more h c) o)
      (λ e. let ne = eqb-false (length (more h c).pending) k.rate e in held_from (more h c) o.row (below_from o.few ne) o.codes)

  -- a byte is a code of every domain
  pub byte_code : (b : ℕ) → b % 256 < order
  byte_code b = let lt : b % 256 < 256 = mod-lt b (omega arith) in omega (arith, lt, k.arithmetic.low)

  pub byte_held : IsLawful order k.image → (h : DuplexHeld) (b : ℕ) → IsTrue (can_be_held k h) → IsTrue (can_be_held k (after_code k h (b % 256)))
  byte_held lawful h b ok = after_code-held lawful h (b % 256) ok (byte_code b)

  with_output-held : IsLawful order k.image → (h : DuplexHeld) → IsTrue (can_be_held k h) → IsTrue (can_be_held k (with_output k h))
  unfolding with_output
  with_output-held lawful h ok =
      cond_both (nat_lt 0 (length h.pending) || length h.outputs == 0) _ _ (λ g. IsTrue (can_be_held k g)) (λ e. after_turn-held lawful h (obeys h ok)) (λ e. ok)

  pub sample_of-held : IsLawful order k.image → (h : DuplexHeld) → IsTrue (can_be_held k h) → IsTrue (can_be_held k (sample_of k h).left)
  unfolding sample_of
  sample_of-held lawful h ok = with_output-held lawful h ok

  after_observe-held : IsLawful order k.image → (h : DuplexHeld) (xs : List ℕ) (g : DuplexHeld) → IsTrue (can_be_held k h) → after_observe k h xs ≡ Ok g → IsTrue (can_be_held k g)
  after_observe-held lawful = observe_codes-held order (after_code k) (can_be_held k) (after_code-held lawful)

module _ {order : ℕ} (k l : SpongeMake order) (same : SameSponge k l) (lawful : IsLawful order k.image) where
  turn-same : (row xs : List ℕ) → IsTrue (is_row_of k row) → Words order k.rate xs → length xs < order → sponge_after_turn k row xs ≡ sponge_after_turn l row xs
  turn-same row [] ok w t = empty_turn-same k l same lawful row ok
  turn-same row (x ∷ xs) ok w t = block_turn-same k l same lawful row ok (x ∷ xs) (length (x ∷ xs)) w t

  after_turn-same : (h : DuplexHeld) → Obeys k k.rate h → after_turn k h ≡ after_turn l h
  unfolding after_turn
  after_turn-same h o = ap with_none_pending (turn-same h.row h.pending o.row (words k h o) (tag k h o))

  pub after_code-same : (h : DuplexHeld) (c : ℕ) → IsTrue (can_be_held k h) → c < order → after_code k h c ≡ after_code l h c
  unfolding after_code more
  after_code-same h c ok lt =
      ap (λ g. if length (more k h c).pending == k.rate then g else more k h c) (after_turn-same (more k h c) (more-obeys k h c ok lt))
      ∙ ap (λ n. if length (more k h c).pending == n then after_turn l (more k h c) else more k h c) same.rate

  after_observe-same : (h : DuplexHeld) (xs : List ℕ) → IsTrue (can_be_held k h) → after_observe k h xs ≡ after_observe l h xs
  after_observe-same = observe_codes-same order (after_code k) (can_be_held k) (after_code-held k lawful) (after_code l) after_code-same

  with_output-same : (h : DuplexHeld) → IsTrue (can_be_held k h) → with_output k h ≡ with_output l h
  unfolding with_output
  with_output-same h ok = ap (λ g. if nat_lt 0 (length h.pending) || length h.outputs == 0 then g else h) (after_turn-same h (obeys k h ok))

  pub sample_of-same : (h : DuplexHeld) → IsTrue (can_be_held k h) → sample_of k h ≡ sample_of l h
  unfolding sample_of
  sample_of-same h ok = ap (λ (g : DuplexHeld). reply (last_output g.outputs) (without_output k g)) (with_output-same h ok)

  pub final_rate-same : (h : DuplexHeld) → IsTrue (can_be_held k h) → final_rate k h ≡ final_rate l h
  final_rate-same h ok = ap (λ (g : DuplexHeld). g.outputs) (after_turn-same h (obeys k h ok))

  same_draws : SameDraws (can_be_held k) (sample_of k) (sample_of l)
  same_draws = record { draws = sample_of-same; drawn = sample_of-held k lawful }

  same_means : SameMeans (can_be_held k) (means k) (means l)
  same_means = record {
    order = refl;
    observes = after_observe-same;
    observed = after_observe-held k lawful;
    value = λ h b ok. ap (λ (r : Reply ℕ DuplexHeld). r.said % 2 ^ b) (sample_of-same h ok);
    after = λ h b ok. ap (λ (r : Reply ℕ DuplexHeld). r.left) (sample_of-same h ok);
    start = λ h ok. refl;
    started = λ h ok. ok;
  }

  observing : (h : DuplexHeld) (xs : List ℕ) → IsTrue (can_be_held k h) → answer_reply as_done (observe_of (after_observe k h xs) h) ≡ answer_reply as_done (observe_of (after_observe l h xs) h)
  observing h xs ok = ap (λ r. answer_reply as_done (observe_of r h)) (after_observe-same h xs ok)

  own_same : SameRules (can_be_held k) (own_rule k) (own_rule l)
  own_same h (ObserveDigest xs) ok = observing h xs.now ok
  own_same h (ObserveBytes xs) ok = observing h xs.now ok
  own_same h (ObserveDigestBytes xs) ok = observing h xs.now ok
  own_same h Sample ok = ap (answer_reply Code) (sample_of-same h ok)
  own_same h (UniformBits b limit) ok =
      ap (answer_reply as_bits)
      (uniform-same (can_be_held k) (sample_of k) (sample_of l) same_draws order k.arithmetic.single h b limit ok
      ∙ ap (λ n. uniform_of (sample_of l) order n h b limit) same.arithmetic.single)
  own_same h _ ok = refl

  -- calls mean the same to challengers of one make
  pub rules_same : SameRules (can_be_held k) (rule k) (rule l)
  rules_same = interface_same (can_be_held k) (means k) (means l) same_means (own_rule k) (own_rule l) own_same
