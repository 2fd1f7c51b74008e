-- What a script is answered, part by part, and the challenger of each part.
use Rattle.std.specs.Prelude.{ℕ, List, [], ◌∷◌, ◌++◌, Some, None, Ok, Err, Option, Result, if◌then◌else◌}
use Rattle.refusal.specs.declared.Refusal.{Refusal}
use Rattle.domain.specs.Arithmetic.{Arithmetic}
use Rattle.domain.specs.Modular.{bytes, baby_bear, koala_bear, goldilocks}
use Rattle.sponge.specs.Sponge.{SpongeMake}
use Rattle.hashers.specs.Choice.{digest_of, hashing_of}
use Rattle.duplex_challenger.specs.declared.held.DuplexHeld.{DuplexHeld}
use Rattle.duplex_challenger.specs.Rules.{fresh_value as duplex_fresh}
use Rattle.duplex_challenger.specs.Bytes.{byte_transcript}
use Rattle.multi_field_challenger.specs.declared.held.MultiHeld.{MultiHeld}
use Rattle.multi_field_challenger.specs.Rules.{fresh_value as multi_fresh}
use Rattle.hash_state.specs.declared.held.HashHeld.{HashHeld}
use Rattle.hash_state.specs.Rules.{initial_no, fresh_value as hash_fresh}
use Rattle.hash_challenger.specs.Meaning.{hash_transcript}
use Rattle.script.specs.declared.DomainName.{DomainName}
use Rattle.script.specs.declared.DomainName.TheVariants.{Bytes, BabyBear, KoalaBear, Goldilocks}
use Rattle.script.specs.declared.HasherName.{HasherName}
use Rattle.script.specs.declared.SpongeParameters.{SpongeParameters}
use Rattle.script.specs.Grammar.{Said, to_make_duplex, to_make_multi, to_make_hash, to_make_serial_duplex, to_make_serial_hash, said_by}
use Rattle.played.specs.Voices.{Voice, searching, no_search, duplex_voice, multi_voice, hash_voice, serial_voice}
use Rattle.played.specs.Hashers.{named_hasher}
use Rattle.agreement.specs.Ends.{or_above}
use Rattle.serializing_challenger.specs.Rules.{order_no}
use Rattle.played.specs.Makes.{asked_sponge, duplex_no, multi_no}
use Rattle.rehearsal.specs.declared.lines.Mark.TheVariants.{Make}
use Rattle.rehearsal.specs.Lines.{At, PartText, marks}
use Rattle.rehearsal.specs.Tables.{table, refused_table, idle_table}
use Rattle.parts.specs.Helpers.{order_of}
use Rattle.parts.specs.Sheets.{part_answers, refused_answers, idle}

-- a part begins at each line that begins with make, and the first at the first line
abbrev pub begun : At → List PartText → List PartText
begun l [] = (l, []) ∷ []
begun l (p ∷ ps) = if marks Make p.0 then (l, []) ∷ p ∷ ps else (l, p.0 ∷ p.1) ∷ ps

abbrev pub parts : List At → List PartText
parts [] = []
parts (l ∷ ls) = begun l (parts ls)

-- one answer for each line, or the prover's and the verifier's run side by side
pub data Way : Type 0 where
  answers : Way
  tables : Way

-- a challenger as it was made: what a script hears of it, and what it holds
pub record Made (Held : Type 0) : Type 0 where
  pub voice : Voice Held
  pub holds : Held

abbrev pub made_as : {Held : Type 0} → Voice Held → Held → Made Held
made_as v h = record { voice = v; holds = h }

-- made, or refused by the first question that is failed
abbrev pub unless : {Held : Type 0} → Option Refusal → Made Held → Result (Made Held) Refusal
unless None m = Ok m
unless (Some e) m = Err e

-- what making gave: C's voice and what it holds, or the refusal
abbrev pub told : {C Held : Type 0} → (C → Voice Held) → (C → Held) → Result C Refusal → Result (Made Held) Refusal
told voice held (Ok c) = Ok (made_as (voice c) (held c))
told voice held (Err e) = Err e

-- what is written of a part: whose challenger is this, whose make was refused, or for which none was asked
unfoldable pub begun_part : {Held : Type 0} → Way → Made Held → PartText → List ℕ
begun_part answers m p = part_answers m.voice m.holds p
begun_part tables m p = table m.voice m.holds p

unfoldable pub refused_part : Way → Refusal → PartText → List ℕ
refused_part answers e p = refused_answers e p
refused_part tables e p = refused_table e p

unfoldable pub idle_part : Way → PartText → List ℕ
idle_part answers p = idle (p.0 ∷ p.1)
idle_part tables p = idle_table p

-- by what its first line made
abbrev pub made_part : {Held : Type 0} → Way → Result (Made Held) Refusal → PartText → List ℕ
made_part w (Ok m) p = begun_part w m p
made_part w (Err e) p = refused_part w e p

abbrev pub arithmetic_of : (f : DomainName) → Arithmetic (order_of f)
arithmetic_of Bytes = bytes
arithmetic_of BabyBear = baby_bear
arithmetic_of KoalaBear = koala_bear
arithmetic_of Goldilocks = goldilocks

-- `find` is a call of the duplex challenger over bytes
abbrev pub found_in : (f : DomainName) → SpongeMake (order_of f) → DuplexHeld → ℕ → ℕ → Option (Option ℕ)
found_in Bytes k = searching (byte_transcript k)
found_in BabyBear k = no_search
found_in KoalaBear k = no_search
found_in Goldilocks k = no_search

unfoldable pub duplex_made : DomainName → SpongeParameters → Result (Made DuplexHeld) Refusal
duplex_made f asked =
    let k = asked_sponge (arithmetic_of f) asked in
    unless (duplex_no asked) (made_as (duplex_voice (found_in f k) k) (duplex_fresh k))

unfoldable pub multi_made_over : ℕ → DomainName → SpongeParameters → Result (Made MultiHeld) Refusal
multi_made_over sampled d asked =
    let k = asked_sponge (arithmetic_of d) asked in
    unless (multi_no sampled (order_of d) asked) (made_as (multi_voice sampled k) (multi_fresh sampled k))

abbrev pub multi_made : DomainName → DomainName → SpongeParameters → Result (Made MultiHeld) Refusal
multi_made f = multi_made_over (order_of f)

-- over the named hash function: the hash challenger, and the serializing one over it
unfoldable pub hash_made : HasherName × List ℕ → Result (Made HashHeld) Refusal
hash_made k =
    let h = named_hasher k.0 in
    unless (initial_no k.1) (made_as (hash_voice (digest_of h) (hashing_of h)) (hash_fresh k.1))

unfoldable pub serial_hash_made_over : ℕ → HasherName × List ℕ → Result (Made HashHeld) Refusal
serial_hash_made_over order k =
    let h = named_hasher k.0 in
    unless (or_above (initial_no k.1) (order_no order))
    (made_as (serial_voice order (hash_transcript (digest_of h) (hashing_of h)) (hash_voice (digest_of h) (hashing_of h))) (hash_fresh k.1))

abbrev pub serial_hash_made : DomainName → HasherName × List ℕ → Result (Made HashHeld) Refusal
serial_hash_made f = serial_hash_made_over (order_of f)

unfoldable pub serial_duplex_made_over : ℕ → SpongeParameters → Result (Made DuplexHeld) Refusal
serial_duplex_made_over order asked =
    let k = asked_sponge bytes asked in
    unless (or_above (duplex_no asked) (order_no order)) (made_as (serial_voice order (byte_transcript k) (duplex_voice (found_in Bytes k) k)) (duplex_fresh k))

abbrev pub serial_duplex_made : DomainName → SpongeParameters → Result (Made DuplexHeld) Refusal
serial_duplex_made f = serial_duplex_made_over (order_of f)

-- what is written of a part whose first line says this
abbrev pub said_part : Way → PartText → Said → List ℕ
said_part w p (to_make_duplex f asked) = made_part w (duplex_made f asked) p
said_part w p (to_make_multi f d asked) = made_part w (multi_made f d asked) p
said_part w p (to_make_hash k) = made_part w (hash_made k) p
said_part w p (to_make_serial_duplex f asked) = made_part w (serial_duplex_made f asked) p
said_part w p (to_make_serial_hash f k) = made_part w (serial_hash_made f k) p
said_part w p _ = idle_part w p

abbrev pub read_part : Way → PartText → Option Said → List ℕ
read_part w p None = idle_part w p
read_part w p (Some s) = said_part w p s

abbrev pub all_parts : Way → List PartText → List ℕ
all_parts w [] = []
all_parts w (p ∷ ps) = read_part w p (said_by p.0.1) ++ all_parts w ps

-- what is written of a script's lines
abbrev pub script : Way → List At → List ℕ
script w ls = all_parts w (parts ls)
