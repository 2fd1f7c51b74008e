-- Proof only, not to be read to believe a contract: after the dropped byte a code is observed, and over transcripts that mean the same the rules are the same.
use Rattle.std.specs.Prelude.{◌≡◌, ℕ, ◌-◌, ◌<◌, ◌≤◌, ◌%◌, ◌^◌, true, ◌&&◌, [], ◌∷◌, Ok, Err, IsOk, nat_le, nat_lt, if◌then◌else◌, IsTrue, refl}
use Rattle.std.proofs.Common.{ap, sym, ◌∙◌, subst, arith}
use Rattle.std.proofs.lemmas.Bool.{lt-ltb, le-leb, cond-true, cond_both, and_from}
use Rattle.refusal.specs.declared.Refusal.TheVariants.{Bits, DrawLimit, NotCode}
use Rattle.domain.specs.Codes.{all_codes}
use Rattle.challenger_traits.specs.Meaning.{Reply, reply, reply_if_passed, bits_fit}
use Rattle.challenger_traits.specs.SameMeansProofs.{SameMeans, bits-same}
use Rattle.sampling.specs.Draws.{is_draw_limit, DrawResult, or_no_draw}
use Rattle.sampling.specs.SameDrawsProofs.{SameDraws, below-same}
use Rattle.byte_transcript.specs.Transcript.{Transcript, StaysHeld, le_bytes, after_bytes, after_observe_bytes, after_word}
use Rattle.byte_transcript.specs.SameTranscript.{SameTranscript}
use Rattle.byte_transcript.specs.SameTranscriptProofs.{observed-held, observed-same, word-held, word-same, after_word-same}
use Rattle.code_bits.specs.CodeBits.{code_bits}
use Rattle.byte_transcript.specs.Encoding.{encoded_numbers}
use Rattle.serializing_challenger.specs.Rules.{after_observe, kept_bits, sample_of, uniform_of, means}

module _ {Held : Type 0} (order : ℕ) (m : Transcript Held) where
  -- one code is observed as its four bytes, where they fit
  put_one : (h : Held) (w : ℕ) → 4 ≤ m.room h → after_observe_bytes m h (encoded_numbers 4 (w ∷ [])) ≡ Ok (after_bytes m h (le_bytes w))
  put_one h w r = cond-true (nat_le 4 (m.room h)) _ _ (le-leb 4 (m.room h) r)

  pub after_observe_one : (h : Held) (w : ℕ) → w < order → 4 ≤ m.room h → after_observe order m h (w ∷ []) ≡ Ok (after_bytes m h (le_bytes w))
  after_observe_one h w lt r = cond-true (nat_lt w order && true) _ _ (and_from (nat_lt w order) true (lt-ltb w order lt) refl) ∙ put_one h w r

  pub code_taken : (h : Held) (w : ℕ) → IsTrue (m.can_be_held h) → w < order → IsOk (after_observe order m (m.after_draw h) (w ∷ []))
  code_taken h w ok lt =
      let roomy = m.laws.room_after_draw h ok in
      subst IsOk (sym (after_observe_one (m.after_draw h) w lt (omega (arith, roomy)))) refl

module _ {Held : Type 0} (order : ℕ) (m n : Transcript Held) (stays : StaysHeld m) (same : SameTranscript m n) where
  pub same_means : SameMeans m.can_be_held (means order m) (means order n)
  same_means = record {
    order = refl;
    observes = λ h xs ok. ap (λ r. if all_codes order xs then r else Err NotCode) (observed-same m n stays same h (encoded_numbers 4 xs) ok);
    observed = λ h xs g ok. cond_both (all_codes order xs) _ _ (λ r. r ≡ Ok g → IsTrue (m.can_be_held g)) (λ q e. observed-held m stays (encoded_numbers 4 xs) h g ok e) (λ q e. absurd cc);
    value = λ h b ok. ap (λ w. w % 2 ^ b) (word-same m n stays same h ok);
    after = λ h b ok. after_word-same m n stays same h ok;
    start = same.after_draw;
    started = stays.after_draw;
  }

  same_draws : SameDraws m.can_be_held (kept_bits order m) (kept_bits order n)
  same_draws = record {
    draws = λ h ok. ap (λ w. reply (w % 2 ^ code_bits order) (after_word m h)) (word-same m n stays same h ok) ∙ ap (reply _) (after_word-same m n stays same h ok);
    drawn = word-held m stays;
  }

  pub sample-same : (h : Held) (limit : ℕ) → IsTrue (m.can_be_held h) → sample_of order m h limit ≡ sample_of order n h limit
  unfolding sample_of
  sample-same h limit ok =
      ap (λ (r : Reply DrawResult Held). reply_if_passed (is_draw_limit limit) DrawLimit h (reply (or_no_draw r.said) r.left))
      (below-same m.can_be_held (kept_bits order m) (kept_bits order n) same_draws order (limit - 1) h ok)

  pub uniform-same : (h : Held) (b limit : ℕ) → IsTrue (m.can_be_held h) → uniform_of order m h b limit ≡ uniform_of order n h b limit
  unfolding uniform_of
  uniform-same h b limit ok =
      ap (λ r. reply_if_passed (bits_fit order b) Bits h (reply_if_passed (is_draw_limit limit) DrawLimit h r))
      (bits-same m.can_be_held (means order m) (means order n) same_means h b ok)
