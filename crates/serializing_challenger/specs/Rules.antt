-- The rules of the serializing challenger, over any byte transcript's meaning and any order.
use Rattle.std.specs.Prelude.{ℕ, ◌-◌, ◌%◌, ◌^◌, List, Some, None, Err, Option, Result, nat_le, if◌then◌else◌}
use Rattle.std.proofs.Common.{mod-lt, pow_pos}
use Rattle.refusal.specs.declared.Refusal.{Refusal}
use Rattle.refusal.specs.declared.Refusal.TheVariants.{SampledOrder, Bits, DrawLimit, NotCode}
use Rattle.refusal.specs.declared.limits.TheConstants.{GREATEST_SAMPLED_ORDER}
use Rattle.domain.specs.Codes.{all_codes}
use Rattle.challenger_traits.specs.Meaning.{Reply, reply, reply_if_passed, Drawing, bits_fit, bits_of}
use Rattle.challenger_traits.specs.Grinding.{Means}
use Rattle.sampling.specs.Draws.{is_draw_limit, or_no_draw, draw_below}
use Rattle.byte_transcript.specs.Transcript.{Transcript, after_observe_bytes, word, after_word}
use Rattle.code_bits.specs.CodeBits.{code_bits}
use Rattle.byte_transcript.specs.Encoding.{encoded_numbers}

-- the question of making: is the order at most the greatest?
abbrev pub order_no : ℕ → Option Refusal
order_no order = if nat_le order GREATEST_SAMPLED_ORDER then None else Some SampledOrder

module _ {Held : Type 0} (order : ℕ) (m : Transcript Held) where
  -- what an observe leaves, or its refusal: each code as four bytes
  abbrev pub after_observe : Held → List ℕ → Result Held Refusal
  after_observe h xs = if all_codes order xs then after_observe_bytes m h (encoded_numbers 4 xs) else Err NotCode

  -- the bits of a word that a sample keeps
  abbrev pub kept_bits : Held → Reply ℕ Held
  kept_bits h = reply (word m h % 2 ^ code_bits order) (after_word m h)

  -- a sample: words are drawn until the bits kept are a code, within the limit
  unfoldable pub sample_of : Held → ℕ → Reply (Result ℕ Refusal) Held
  sample_of h limit =
      reply_if_passed (is_draw_limit limit) DrawLimit h
      (reply (or_no_draw (draw_below kept_bits order (limit - 1) h).said) (draw_below kept_bits order (limit - 1) h).left)

  -- bits are the low bits of one word
  abbrev pub drawing : Drawing Held
  drawing = record { order = order; value = λ h b. word m h % 2 ^ b; after = λ h b. after_word m h; below = λ h b. mod-lt _ (pow_pos b) }

  -- uniform bits are sample bits once the questions are passed, also at bits 0
  unfoldable pub uniform_of : Held → ℕ → ℕ → Reply (Result ℕ Refusal) Held
  uniform_of h b limit = reply_if_passed (bits_fit order b) Bits h (reply_if_passed (is_draw_limit limit) DrawLimit h (bits_of drawing h b))

  -- a check starts by drawing a byte, which is dropped
  abbrev pub means : Means Held
  means = record { after_observe = after_observe; drawing = drawing; check_start = m.after_draw }
