-- The duplex challenger over bytes as a byte transcript: observing a byte is observing its code, and there is always room.
use Rattle.std.specs.Prelude.{ℕ, ◌%◌}
use Rattle.std.proofs.Common.{arith, lit≤}
use Rattle.sponge.specs.Sponge.{SpongeMake}
use Rattle.byte_transcript.specs.Transcript.{Transcript}
use Rattle.duplex_challenger.specs.declared.bytes.TheConstants.{UNBOUNDED_ROOM}
use Rattle.duplex_challenger.specs.declared.held.DuplexHeld.{DuplexHeld}
use Rattle.duplex_challenger.specs.Rules.{after_code, sample_of, final_rate}
use Rattle.duplex_challenger.specs.Holds.{can_be_held}

-- a number that is no byte counts as its remainder
abbrev pub byte_transcript : {order : ℕ} → SpongeMake order → Transcript DuplexHeld
byte_transcript k = record {
  can_be_held = can_be_held k;
  after_byte = λ h b. after_code k h (b % 256);
  byte = λ h. (sample_of k h).said;
  after_draw = λ h. (sample_of k h).left;
  digest = final_rate k;
  room = λ h. UNBOUNDED_ROOM;
  laws = record { lowers = λ h b. omega arith; room_after_draw = λ h ok. lit≤ tt };
}
