-- Proof only, not to be read to believe a contract: over hash functions of equal digests calls and transcripts mean the same.
use Rattle.std.specs.Prelude.{◌≡◌, ℕ, List, length, ◌==◌, if◌then◌else◌, refl}
use Rattle.std.proofs.Common.{ap}
use Rattle.hasher.specs.Hashing.{IsHashFunction}
use Rattle.hasher.specs.SameDigests.{SameDigests}
use Rattle.challenger_traits.specs.Meaning.{Reply, reply}
use Rattle.runs.specs.declared.call.Call.TheVariants.{Sample}
use Rattle.runs.specs.declared.answer.Answer.TheVariants.{Code}
use Rattle.runs.specs.Answers.{answer_reply}
use Rattle.runs.specs.Runs.{SameRules}
use Rattle.byte_transcript.specs.Transcript.{StaysHeld}
use Rattle.byte_transcript.specs.SameTranscript.{SameTranscript}
use Rattle.hash_state.specs.declared.held.HashHeld.{HashHeld}
use Rattle.hash_state.specs.Rules.{hash_held, can_be_held, last_output, without_output, sample_of}
use Rattle.hash_challenger.specs.Meaning.{hash_transcript}
use Rattle.hash_challenger.specs.RoomProofs.{after_draw-held}
use Rattle.hash_challenger.specs.Calls.{rule}

module _ (f g : List ℕ → List ℕ) (same : SameDigests f g) where
  sample_same : (h : HashHeld) → sample_of f h ≡ sample_of g h
  sample_same h = ap (λ d. reply (last_output (if length h.outputs == 0 then hash_held d d else h)) (without_output (if length h.outputs == 0 then hash_held d d else h))) (same h.input)

  pub rules_same : SameRules can_be_held (rule f) (rule g)
  rules_same h Sample ok = ap (answer_reply Code) (sample_same h)
  rules_same h _ ok = refl

  pub transcripts_same : {m n : ℕ} (hf : IsHashFunction m f) (hg : IsHashFunction n g) → SameTranscript (hash_transcript f hf) (hash_transcript g hg)
  transcripts_same hf hg = record {
    after_byte = λ h b ok. refl;
    byte = λ h ok. ap (λ (r : Reply ℕ HashHeld). r.said) (sample_same h);
    after_draw = λ h ok. ap (λ (r : Reply ℕ HashHeld). r.left) (sample_same h);
    digest = λ h ok. same h.input;
    room = λ h ok. refl;
  }

-- what a transcript holds leads to what it can hold
pub transcript_stays : {n : ℕ} (digest : List ℕ → List ℕ) (hashing : IsHashFunction n digest) → StaysHeld (hash_transcript digest hashing)
transcript_stays digest hashing = record { after_byte = λ h b ok some. refl; after_draw = λ h ok. after_draw-held digest hashing h ok }
