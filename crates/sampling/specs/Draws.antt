-- Bits and bounded draws, over any way to draw a value.
use Rattle.std.specs.Prelude.{ℕ, zero, suc, ◌%◌, ◌^◌, Bool, ◌&&◌, Ok, Err, Result, nat_le, nat_lt, if◌then◌else◌}
use Rattle.std.proofs.Common.{mod-lt, pow_pos}
use Rattle.refusal.specs.declared.Refusal.{Refusal}
use Rattle.refusal.specs.declared.Refusal.TheVariants.{ResamplingError}
use Rattle.challenger_traits.specs.Meaning.{Reply, reply, Drawing}
use Rattle.refusal.specs.declared.limits.TheConstants.{GREATEST_DRAW_LIMIT}

-- is the draw limit at least 1, and at most the greatest?
abbrev pub is_draw_limit : ℕ → Bool
is_draw_limit limit = nat_le 1 limit && nat_le limit GREATEST_DRAW_LIMIT

-- a bounded draw gives a number, or the value drawn last and the bound
abbrev pub DrawResult : Type 0
DrawResult = Result ℕ (ℕ × ℕ)

abbrev pub or_no_draw : DrawResult → Result ℕ Refusal
or_no_draw (Ok v) = Ok v
or_no_draw (Err p) = Err (ResamplingError p.0 p.1)

module _ {Held : Type 0} (draw_of : Held → Reply ℕ Held) where
  -- bits are the low bits of one value
  abbrev pub bits_drawing : ℕ → Drawing Held
  bits_drawing order = record { order = order; value = λ h b. (draw_of h).said % 2 ^ b; after = λ h b. (draw_of h).left; below = λ h b. mod-lt _ (pow_pos b) }

  -- the value drawn at h, if it is below the end; else the other
  abbrev pub draw_if_below : ℕ → Held → Reply DrawResult Held → Reply DrawResult Held
  draw_if_below end h other = if nat_lt (draw_of h).said end then reply (Ok (draw_of h).said) (draw_of h).left else other

  -- draws until one is below the end, at most one and this many more
  abbrev pub draw_below : ℕ → ℕ → Held → Reply DrawResult Held
  draw_below end zero h = draw_if_below end h (reply (Err ((draw_of h).said, end)) (draw_of h).left)
  draw_below end (suc more) h = draw_if_below end h (draw_below end more (draw_of h).left)
