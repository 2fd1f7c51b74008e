-- The rules of the duplex challenger, on what it holds.
use Rattle.std.specs.Prelude.{ℕ, ◌||◌, List, [], ◌∷◌, ◌++◌, length, replicate, Result, ◌==◌, nat_lt, if◌then◌else◌}
use Rattle.refusal.specs.declared.Refusal.{Refusal}
use Rattle.challenger_traits.specs.Meaning.{Reply, reply, Drawing}
use Rattle.challenger_traits.specs.Grinding.{Means}
use Rattle.challenger_traits.specs.Observing.{after_observe_codes}
use Rattle.sampling.specs.Draws.{bits_drawing}
use Rattle.sponge.specs.Sponge.{SpongeMake, SpongeState, last_output, without_last}
use Rattle.sponge.specs.Sponge.{after_turn as sponge_after_turn}
use Rattle.duplex_challenger.specs.declared.held.DuplexHeld.{DuplexHeld}

abbrev pub duplex_held : List ℕ → List ℕ → List ℕ → DuplexHeld
duplex_held row pending outputs = record { row = row; pending = pending; outputs = outputs }

-- nothing is pending after a turn
abbrev pub with_none_pending : SpongeState → DuplexHeld
with_none_pending s = duplex_held s.row [] s.outputs

module _ {order : ℕ} (k : SpongeMake order) where
  -- zeros, nothing pending, no output
  abbrev pub fresh_value : DuplexHeld
  fresh_value = duplex_held (replicate k.width 0) [] []

  -- a turn: the pending codes are absorbed as a block tagged by their number, or, if there is none, the row is only permuted; the outputs become the rate
  unfoldable pub after_turn : DuplexHeld → DuplexHeld
  after_turn h = with_none_pending (sponge_after_turn k h.row h.pending)

  -- one code observed: all outputs are dropped, the code is appended, and a turn comes when RATE codes are pending
  unfoldable pub after_code : DuplexHeld → ℕ → DuplexHeld
  after_code h c =
      let more : DuplexHeld = duplex_held h.row (h.pending ++ (c ∷ [])) [] in
      if length more.pending == k.rate then after_turn more else more

  -- what an observe leaves, or its refusal: the codes are taken in turn
  abbrev pub after_observe : DuplexHeld → List ℕ → Result DuplexHeld Refusal
  after_observe = after_observe_codes order after_code

  -- before a sample a turn comes, if codes are pending or no output is left
  unfoldable pub with_output : DuplexHeld → DuplexHeld
  with_output h = if nat_lt 0 (length h.pending) || length h.outputs == 0 then after_turn h else h

  -- a sample takes the last output
  abbrev pub without_output : DuplexHeld → DuplexHeld
  without_output h = duplex_held h.row h.pending (without_last h.outputs)

  unfoldable pub sample_of : DuplexHeld → Reply ℕ DuplexHeld
  sample_of h = reply (last_output (with_output h).outputs) (without_output (with_output h))

  -- bits are the low bits of one sample
  abbrev pub drawing : Drawing DuplexHeld
  drawing = bits_drawing sample_of order

  -- a check starts where it stands
  abbrev pub means : Means DuplexHeld
  means = record { after_observe = after_observe; drawing = drawing; check_start = λ h. h }

  -- the digest: the rate after one more turn
  abbrev pub final_rate : DuplexHeld → List ℕ
  final_rate h = (after_turn h).outputs
