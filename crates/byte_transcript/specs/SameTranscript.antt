-- When two byte transcripts mean the same.
use Rattle.std.specs.Prelude.{◌≡◌, ℕ, IsTrue}
use Rattle.byte_transcript.specs.Transcript.{Transcript}

-- on every value that can be held: the same is left after a byte is observed, the same byte is drawn, the same is left after it, and digest and room are the same
pub record SameTranscript {Held : Type 0} (m n : Transcript Held) : Type 0 where
  pub after_byte : (h : Held) (b : ℕ) → IsTrue (m.can_be_held h) → m.after_byte h b ≡ n.after_byte h b
  pub byte : (h : Held) → IsTrue (m.can_be_held h) → m.byte h ≡ n.byte h
  pub after_draw : (h : Held) → IsTrue (m.can_be_held h) → m.after_draw h ≡ n.after_draw h
  pub digest : (h : Held) → IsTrue (m.can_be_held h) → m.digest h ≡ n.digest h
  pub room : (h : Held) → IsTrue (m.can_be_held h) → m.room h ≡ n.room h
