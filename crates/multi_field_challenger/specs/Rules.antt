-- The rules of the multi-field challenger, on what it holds.
use Rattle.std.specs.Prelude.{ℕ, ◌*◌, List, [], ◌∷◌, ◌++◌, length, replicate, Ok, Err, Result, ◌==◌, nat_lt, if◌then◌else◌}
use Rattle.refusal.specs.declared.Refusal.{Refusal}
use Rattle.refusal.specs.declared.Refusal.TheVariants.{NotCode}
use Rattle.domain.specs.Codes.{all_codes}
use Rattle.challenger_traits.specs.Meaning.{Reply, reply, Drawing}
use Rattle.challenger_traits.specs.Grinding.{Means}
use Rattle.challenger_traits.specs.Observing.{after_observe_codes}
use Rattle.sampling.specs.Draws.{bits_drawing}
use Rattle.sponge.specs.Sponge.{SpongeMake, SpongeState, sponge_state, empty_turn, last_output, without_last}
use Rattle.packing.specs.Powers.{limbs, digits}
use Rattle.packing.specs.Packing.{digits_of_all, groups}
use Rattle.multi_field_blocks.specs.Blocks.{scalars_block_turn, with_outputs, after_groups}
use Rattle.multi_field_challenger.specs.declared.held.MultiHeld.{MultiHeld}

abbrev pub multi_held : List ℕ → List ℕ → List ℕ → List ℕ → MultiHeld
multi_held row pending outputs squeeze = record { row = row; pending = pending; outputs = outputs; squeeze = squeeze }

-- a sponge, with the scalars that are pending and those not yet taken
abbrev pub multi_held_with : SpongeState → List ℕ → List ℕ → MultiHeld
multi_held_with s pending squeeze = multi_held s.row pending s.outputs squeeze

abbrev pub sponge_of : MultiHeld → SpongeState
sponge_of h = sponge_state h.row h.outputs

module _ {order : ℕ} (sampled : ℕ) (k : SpongeMake order) where
  -- zeros, and all lists empty
  abbrev pub fresh_value : MultiHeld
  fresh_value = multi_held (replicate k.width 0) [] [] []

  -- a flush: the pending scalars, packed in groups of limbs, are a block tagged by their number; pending and the squeeze list are emptied
  unfoldable pub after_flush : MultiHeld → MultiHeld
  after_flush h = multi_held_with (scalars_block_turn sampled k h.row h.pending) [] []

  -- pending is flushed, if there is some
  unfoldable pub after_flush_if_pending : MultiHeld → MultiHeld
  after_flush_if_pending h = if nat_lt 0 (length h.pending) then after_flush h else h

  -- one scalar observed: both output lists are dropped, the scalar is appended, and a flush comes at limbs times RATE of them
  unfoldable pub after_code : MultiHeld → ℕ → MultiHeld
  after_code h c =
      let more : MultiHeld = multi_held h.row (h.pending ++ (c ∷ [])) [] [] in
      if length more.pending == limbs sampled order * k.rate then after_flush more else more

  -- what an observe leaves, or its refusal: the scalars are taken in turn
  abbrev pub after_observe : MultiHeld → List ℕ → Result MultiHeld Refusal
  after_observe = after_observe_codes sampled after_code

  -- a digest: both output lists are dropped, pending is flushed, if there is some, and the words are absorbed in groups of RATE
  unfoldable pub after_digest : MultiHeld → List ℕ → MultiHeld
  after_digest h ws = multi_held_with (after_groups k (sponge_of (after_flush_if_pending (multi_held h.row h.pending [] []))) ws (groups k.rate ws)) [] []

  abbrev pub after_observe_digest : MultiHeld → List ℕ → Result MultiHeld Refusal
  after_observe_digest h ws = if all_codes order ws then Ok (after_digest h ws) else Err NotCode

  -- the squeeze list is filled: every output is split, in order, and the outputs are dropped
  unfoldable pub after_fill : MultiHeld → MultiHeld
  after_fill h = multi_held (with_outputs k (sponge_of h)).row h.pending [] (digits_of_all sampled (digits sampled order) (with_outputs k (sponge_of h)).outputs)

  -- before a sample pending is flushed, if there is some, and an empty squeeze list filled
  unfoldable pub with_scalar : MultiHeld → MultiHeld
  with_scalar h = if length (after_flush_if_pending h).squeeze == 0 then after_fill (after_flush_if_pending h) else after_flush_if_pending h

  -- a sample takes the last scalar
  abbrev pub without_scalar : MultiHeld → MultiHeld
  without_scalar h = multi_held h.row h.pending h.outputs (without_last h.squeeze)

  unfoldable pub sample_of : MultiHeld → Reply ℕ MultiHeld
  sample_of h = reply (last_output (with_scalar h).squeeze) (without_scalar (with_scalar h))

  -- bits are the low bits of one sample
  abbrev pub drawing : Drawing MultiHeld
  drawing = bits_drawing sample_of sampled

  -- a check starts where it stands
  abbrev pub means : Means MultiHeld
  means = record { after_observe = after_observe; drawing = drawing; check_start = λ h. h }

  -- the digest: the rate after a flush, or after a turn with no block if nothing is pending
  unfoldable pub final_rate : MultiHeld → List ℕ
  final_rate h = if nat_lt 0 (length h.pending) then (after_flush h).outputs else (empty_turn k h.row).outputs
