-- What a script hears of each challenger.
use Rattle.std.specs.Prelude.{ℕ, List, Some, None, Option}
use Rattle.runs.specs.Runs.{Rule}
use Rattle.sponge.specs.Sponge.{SpongeMake}
use Rattle.byte_transcript.specs.Transcript.{Transcript, least_candidate}
use Rattle.hasher.specs.Hashing.{IsHashFunction}
use Rattle.printing.specs.Spoken.{hex_words}
use Rattle.duplex_challenger.specs.declared.held.DuplexHeld.{DuplexHeld}
use Rattle.duplex_challenger.specs.Rules.{final_rate as duplex_finalized}
use Rattle.duplex_challenger.specs.Calls.{rule as duplex_rule}
use Rattle.multi_field_challenger.specs.declared.held.MultiHeld.{MultiHeld}
use Rattle.multi_field_challenger.specs.Rules.{final_rate as multi_finalized}
use Rattle.multi_field_challenger.specs.Calls.{rule as multi_rule}
use Rattle.hash_state.specs.declared.held.HashHeld.{HashHeld}
use Rattle.hash_challenger.specs.Calls.{rule as hash_rule}
use Rattle.hash_challenger.specs.Meaning.{hash_transcript}
use Rattle.serializing_challenger.specs.Calls.{rule as serial_rule}
use Rattle.played.specs.declared.dialect.Dialect.{Dialect}
use Rattle.played.specs.declared.dialect.Dialect.TheVariants.{Codes, Bytes, Serializing}
use Rattle.played.specs.Shown.{duplex_words, multi_words, hash_held_words, codes_words}

-- what a call says and leaves, what is printed of a held value and of the digest at the end, what numbers are, and what `find` gives, if there is that call
pub record Voice (Held : Type 0) : Type 0 where
  pub rule : Rule Held
  pub shown : Held → List ℕ
  pub ending : Held → List ℕ
  pub dialect : Dialect
  pub found : Held → ℕ → ℕ → Option (Option ℕ)

abbrev pub voice : {Make Held : Type 0} → (Make → Rule Held) → (Held → List ℕ) → (Make → Held → List ℕ) → Dialect → (Make → Held → ℕ → ℕ → Option (Option ℕ)) → Make → Voice Held
voice rule shown ending dialect found k = record { rule = rule k; shown = shown; ending = ending k; dialect = dialect; found = found k }

-- a search, and none
abbrev pub searching : {Held : Type 0} → Transcript Held → Held → ℕ → ℕ → Option (Option ℕ)
searching m h n mask = Some (least_candidate m h n mask)

abbrev pub no_search : {Held : Type 0} → Held → ℕ → ℕ → Option (Option ℕ)
no_search h n mask = None

abbrev pub duplex_voice : {order : ℕ} → (DuplexHeld → ℕ → ℕ → Option (Option ℕ)) → SpongeMake order → Voice DuplexHeld
duplex_voice found k = record { rule = duplex_rule k; shown = duplex_words; ending = λ h. codes_words (duplex_finalized k h); dialect = Codes; found = found }

abbrev pub multi_voice : {order : ℕ} → ℕ → SpongeMake order → Voice MultiHeld
multi_voice sampled k = record { rule = multi_rule sampled k; shown = multi_words; ending = λ h. codes_words (multi_finalized sampled k h); dialect = Codes; found = no_search }

abbrev pub hash_voice : {n : ℕ} (digest : List ℕ → List ℕ) → IsHashFunction n digest → Voice HashHeld
hash_voice digest hashing = record { rule = hash_rule digest; shown = hash_held_words; ending = λ h. hex_words (digest h.input); dialect = Bytes; found = searching (hash_transcript digest hashing) }

-- over a transcript of this meaning and voice: what is printed is the transcript's
abbrev pub serial_voice : {Held : Type 0} → ℕ → Transcript Held → Voice Held → Voice Held
serial_voice order m below = record { rule = serial_rule order m; shown = below.shown; ending = below.ending; dialect = Serializing; found = no_search }
