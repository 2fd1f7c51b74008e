-- Uniform bits, over any way to draw codes of an order; up to `single` bits come from one code.
use Rattle.std.specs.Prelude.{ℕ, ◌+◌, ◌-◌, ◌*◌, ◌/◌, ◌%◌, ◌^◌, Ok, Err, Result, ◌==◌, nat_le, if◌then◌else◌}
use Rattle.refusal.specs.declared.Refusal.{Refusal}
use Rattle.refusal.specs.declared.Refusal.TheVariants.{Bits, DrawLimit}
use Rattle.challenger_traits.specs.Meaning.{Reply, reply, reply_if_passed, bits_fit}
use Rattle.sampling.specs.Draws.{is_draw_limit, DrawResult, or_no_draw, draw_below}

-- the greatest multiple of 2^bits that is at most the order
abbrev pub sampling_bound : ℕ → ℕ → ℕ
sampling_bound order b = order - order % 2 ^ b

abbrev pub low_bits : ℕ → DrawResult → DrawResult
low_bits b (Ok v) = Ok (v % 2 ^ b)
low_bits b (Err p) = Err p

-- the low part v, of b bits, below the high one
abbrev pub with_high_part : ℕ → ℕ → DrawResult → DrawResult
with_high_part b v (Ok w) = Ok (v + w * 2 ^ b)
with_high_part b v (Err p) = Err p

module _ {Held : Type 0} (draw_of : Held → Reply ℕ Held) (order : ℕ) where
  -- b bits from one bounded draw within the limit
  unfoldable pub part_of : ℕ → ℕ → Held → Reply DrawResult Held
  part_of b limit h =
      let r : Reply DrawResult Held = draw_below draw_of (sampling_bound order b) (limit - 1) h in
      reply (low_bits b r.said) r.left

  -- the high part, of c bits, once the low one of b bits is drawn; a failed low part ends the call
  abbrev pub high_part : ℕ → ℕ → ℕ → DrawResult → Held → Reply DrawResult Held
  high_part b c limit (Ok v) g = reply (with_high_part b v (part_of c limit g).said) (part_of c limit g).left
  high_part b c limit (Err p) g = reply (Err p) g

  module _ (single : ℕ) where
    -- up to single one part; above it the low half first, then the rest
    unfoldable pub parts_of : ℕ → ℕ → Held → Reply DrawResult Held
    parts_of b limit h =
        if nat_le b single then part_of b limit h
        else high_part (b / 2) (b - b / 2) limit (part_of (b / 2) limit h).said (part_of (b / 2) limit h).left

    -- at bits 0 it gives 0 and moves nothing
    unfoldable pub uniform_of : Held → ℕ → ℕ → Reply (Result ℕ Refusal) Held
    uniform_of h b limit =
        reply_if_passed (bits_fit order b) Bits h
        (if b == 0 then reply (Ok 0) h else reply_if_passed (is_draw_limit limit) DrawLimit h
        (reply (or_no_draw (parts_of b limit h).said) (parts_of b limit h).left))
