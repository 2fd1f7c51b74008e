-- The answers to the lines of a script.
use Rattle.std.specs.Prelude.{◌≡◌, ℕ, List, [], ◌∷◌, ◌++◌, Some, None, Ok, Err, Option, Result, codes, decimal}
use Rattle.hex.specs.Hex.{encode_lower}
use Rattle.refusal.specs.declared.Refusal.{Refusal}
use Rattle.refusal.specs.Spoken.{refusal_words}
use Rattle.challenger_traits.specs.Meaning.{Reply, reply}
use Rattle.runs.specs.declared.call.Call.{Call}
use Rattle.runs.specs.Spoken.{answer_words}
use Rattle.script.specs.declared.HasherName.{HasherName}
use Rattle.script.specs.Grammar.{Said, said_by}
use Rattle.played.specs.declared.dialect.Unfit.{Unfit}
use Rattle.played.specs.Requests.{called}
use Rattle.played.specs.Kinds.{LineKind, kind_of, blank, call, find, held, hash_of, helpers, bound}
use Rattle.played.specs.Spoken.{unfit_words}
use Rattle.played.specs.Voices.{Voice}
use Rattle.rehearsal.specs.declared.lines.Mark.TheVariants.{Finalize}
use Rattle.rehearsal.specs.Lines.{At, PartText, before, from, written, left}
use Rattle.rehearsal.specs.Tables.{ended}
use Rattle.parts.specs.Hashes.{named_digest}
use Rattle.parts.specs.Helpers.{pair_numbers}

-- what a search found
abbrev pub find_words : Option (Option ℕ) → List ℕ
find_words None = codes "no-call"
find_words (Some None) = codes "ok none"
find_words (Some (Some n)) = codes "ok " ++ decimal n

-- the digest of bytes
abbrev pub digest_words : HasherName × List ℕ → List ℕ
digest_words k = codes "ok " ++ encode_lower (named_digest k.0 k.1)

-- the numbers of two domains
abbrev pub numbers_words : Result (ℕ × ℕ × ℕ) Refusal → List ℕ
numbers_words (Ok n) = codes "ok " ++ (decimal n.0 ++ (codes " " ++ (decimal n.1 ++ (codes " " ++ decimal n.2))))
numbers_words (Err e) = refusal_words e

-- the answer to a line where there is no challenger
abbrev pub idle_kind : LineKind → List ℕ
idle_kind blank = []
idle_kind (hash_of k) = ended (digest_words k)
idle_kind (helpers f d) = ended (numbers_words (pair_numbers f d))
idle_kind _ = ended (codes "no-challenger")

abbrev pub idle_said : Option Said → List ℕ
idle_said None = ended (codes "bad-line")
idle_said (Some s) = idle_kind (kind_of s)

abbrev pub idle : List At → List ℕ
idle [] = []
idle (l ∷ ls) = idle_said (said_by l.1) ++ idle ls

-- a challenger, with what making it fixed and what it holds, was asked for lines: this was written, it is left with this, and what making fixed stays
pub record Answers {C Make Held : Type 0} (make : C → Make) (held : C → Held) (before after : List ℕ) (old new : C) (r : Reply (List ℕ) Held) : Type 0 where
  pub wrote : after ≡ before ++ r.said
  pub leaves : held new ≡ r.left
  pub stays : make new ≡ make old

module _ {Held : Type 0} (v : Voice Held) where
  -- the answer to a line that asks for a call, or does not fit, and what it leaves
  abbrev pub call_answer : Held → Result (Option Call) Unfit → Reply (List ℕ) Held
  call_answer h (Ok None) = reply [] h
  call_answer h (Ok (Some c)) = reply (ended (answer_words (v.rule h c).said)) (v.rule h c).left
  call_answer h (Err e) = reply (ended (unfit_words e)) h

  -- and to any line; makes and finalize stand at the bounds of a transcript, not in it
  abbrev pub kind_answer : Held → Said → LineKind → Reply (List ℕ) Held
  kind_answer h s blank = reply [] h
  kind_answer h s call = call_answer h (called v.dialect s)
  kind_answer h s (find n m) = reply (ended (find_words (v.found h n m))) h
  kind_answer h s held = reply (ended (codes "held " ++ v.shown h)) h
  kind_answer h s (hash_of k) = reply (ended (digest_words k)) h
  kind_answer h s (helpers f d) = reply (ended (numbers_words (pair_numbers f d))) h
  kind_answer h s bound = reply [] h

  abbrev pub said_answer : Held → Option Said → Reply (List ℕ) Held
  said_answer h None = reply (ended (codes "bad-line")) h
  said_answer h (Some s) = kind_answer h s (kind_of s)

  abbrev pub line_answer : At → Held → Reply (List ℕ) Held
  line_answer l h = said_answer h (said_by l.1)

  -- from a finalize on there is no challenger
  abbrev pub finish : Held → List At → List ℕ
  finish h [] = []
  finish h (l ∷ ls) = ended (codes "ok " ++ v.ending h) ++ idle ls

  -- the answers to a part whose challenger holds h when it is made
  abbrev pub part_answers : Held → PartText → List ℕ
  part_answers h p =
      ended (codes "ok") ++ (written line_answer h (before Finalize p.1) ++ finish (left line_answer h (before Finalize p.1)) (from Finalize p.1))

-- the answers to a part whose make was refused
abbrev pub refused_answers : Refusal → PartText → List ℕ
refused_answers e p = ended (refusal_words e) ++ idle p.1
