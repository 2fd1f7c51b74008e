-- What the hash challenger means as a byte transcript.
use Rattle.std.specs.Prelude.{ℕ, List, [], ◌∷◌}
use Rattle.hasher.specs.Hashing.{IsHashFunction}
use Rattle.byte_transcript.specs.Transcript.{Transcript}
use Rattle.hash_state.specs.declared.held.HashHeld.{HashHeld}
use Rattle.hash_state.specs.Rules.{room, can_be_held, after_append, sample_of}
use Rattle.hash_challenger.specs.RoomProofs.{room-laws}

abbrev pub hash_transcript : {n : ℕ} (digest : List ℕ → List ℕ) → IsHashFunction n digest → Transcript HashHeld
hash_transcript digest hashing = record {
  can_be_held = can_be_held;
  after_byte = λ h b. after_append h (b ∷ []);
  byte = λ h. (sample_of digest h).said;
  after_draw = λ h. (sample_of digest h).left;
  digest = λ h. digest h.input;
  room = room;
  laws = room-laws digest hashing;
}
