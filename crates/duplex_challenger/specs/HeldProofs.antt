-- Proof only, not to be read to believe a contract: each challenger in memory holds a value that can be held, and bytes in turn are a transcript's.
use Rattle.std.specs.Prelude.{ℕ, ◌%◌, IsTrue, refl}
use Rattle.std.proofs.Common.{ap}
use Rattle.domain.specs.declared.Domain.{Ghosts as DomainGhosts}
use Rattle.permutation.specs.declared.CryptographicPermutation.{Ghosts as PermutationGhosts}
use Rattle.permutation.specs.Rows.{IsLawful}
use Rattle.sponge.specs.Sponge.{SpongeMake}
use Rattle.sponge.specs.SpongeHeldProofs.{sponge_row_held}
use Rattle.byte_transcript.specs.Transcript.{StaysHeld}
use Rattle.byte_transcript.specs.SameTranscript.{SameTranscript}
use Rattle.sponge.specs.SameSponge.{SameSponge}
use Rattle.duplex_challenger.specs.declared.DuplexChallenger.{DuplexChallenger}
use Rattle.duplex_challenger.specs.Holds.{held_value, make_meaning, can_be_held}
use Rattle.duplex_challenger.specs.SameProofs.{held_from, byte_code, byte_held, sample_of-held, after_code-same, sample_of-same, final_rate-same}
use Rattle.duplex_challenger.specs.Bytes.{byte_transcript}

pub in_memory : {D P : Type 0} {order : ℕ} {d : DomainGhosts D order} {p : PermutationGhosts P D order} (s : DuplexChallenger D P order d p) → IsTrue (can_be_held (make_meaning s) (held_value s))
in_memory s = held_from (make_meaning s) (held_value s) (sponge_row_held s.sponge) s.room s.pending.codes

-- what a transcript holds leads to what it can hold
pub transcript_stays : {order : ℕ} (k : SpongeMake order) → IsLawful order k.image → StaysHeld (byte_transcript k)
transcript_stays k lawful = record { after_byte = λ h b ok some. byte_held k lawful h b ok; after_draw = λ h ok. sample_of-held k lawful h ok }

-- over one make the transcripts mean the same
pub transcripts_same : {order : ℕ} (k l : SpongeMake order) → IsLawful order k.image → SameSponge k l → SameTranscript (byte_transcript k) (byte_transcript l)
transcripts_same k l lawful same = record {
  after_byte = λ h b ok. after_code-same k l same lawful h (b % 256) ok (byte_code k b);
  byte = λ h ok. ap (λ r. r.said) (sample_of-same k l same lawful h ok);
  after_draw = λ h ok. ap (λ r. r.left) (sample_of-same k l same lawful h ok);
  digest = λ h ok. final_rate-same k l same lawful h ok;
  room = λ h ok. refl;
}
