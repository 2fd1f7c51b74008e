-- The table of the prover's and the verifier's run.
use Rattle.std.specs.Prelude.{ℕ, true, List, [], ◌∷◌, ◌++◌, Some, None, Ok, Err, Option, Result, codes, decimal}
use Rattle.std.specs.Option.{option_map}
use Rattle.refusal.specs.declared.Refusal.{Refusal}
use Rattle.refusal.specs.Spoken.{refusal_words}
use Rattle.challenger_traits.specs.Meaning.{Reply, reply}
use Rattle.runs.specs.declared.call.Call.{Call}
use Rattle.runs.specs.declared.call.Call.TheVariants.{CheckWitness, Grind}
use Rattle.runs.specs.declared.answer.Answer.{Answer}
use Rattle.runs.specs.declared.answer.Answer.TheVariants.{Checked}
use Rattle.runs.specs.Runs.{witness}
use Rattle.runs.specs.Spoken.{answer_words}
use Rattle.script.specs.Grammar.{Said, said_by}
use Rattle.played.specs.declared.dialect.Unfit.{Unfit}
use Rattle.played.specs.Requests.{called}
use Rattle.played.specs.Kinds.{LineKind, kind_of, call, bound}
use Rattle.played.specs.Spoken.{unfit_words}
use Rattle.played.specs.Voices.{Voice}
use Rattle.printing.specs.Table.{row_text, head_text}
use Rattle.rehearsal.specs.declared.lines.Mark.TheVariants.{Finalize}
use Rattle.rehearsal.specs.Lines.{At, PartText, before, from, written, left}

-- with a line end
abbrev pub ended : List ℕ → List ℕ
ended text = text ++ (10 ∷ [])

abbrev pub head : List ℕ
head = ended head_text

-- a line, the prover's answer, what the verifier called in its place, and the verifier's answer
abbrev pub row : At → List ℕ → List ℕ → List ℕ → List ℕ
row l prover instead verifier = ended (row_text l.0 l.1 prover instead verifier)

-- both called the same, and got the same answer
abbrev pub same : At → List ℕ → List ℕ
same l answer = row l answer (codes "same") answer

-- the bits and the budget of a grind, and the bits and the witness of a check
abbrev pub as_grind : Call → Option (ℕ × ℕ)
as_grind (Grind b n) = Some (b, n)
as_grind _ = None

abbrev pub as_check : Call → Option (ℕ × ℕ)
as_check (CheckWitness b w) = Some (b, w)
as_check _ = None

-- what the verifier calls in the place of a call that got this answer, and what it is answered: it repeats a call, checks the witness of a passed grind, and leaves a refused one out
abbrev pub again_of : Option (ℕ × ℕ) → Call → Answer → Option (Call × Answer)
again_of None c a = Some (c, a)
again_of (Some g) c a = option_map (λ w. (CheckWitness g.0 w, Checked true)) (witness a)

abbrev pub again : Call → Answer → Option (Call × Answer)
again c a = again_of (as_grind c) c a

-- the answer by which it agrees
abbrev pub wanted_of : Option (ℕ × ℕ) → Answer → Answer
wanted_of None a = a
wanted_of (Some g) a = Checked true

abbrev pub wanted : Call → Answer → Answer
wanted c a = wanted_of (as_grind c) a

-- what it called, in words
abbrev pub check_words : Option (ℕ × ℕ) → List ℕ
check_words None = codes "same"
check_words (Some p) = codes "check " ++ (decimal p.0 ++ (codes " " ++ decimal p.1))

abbrev pub instead_words : Option (ℕ × ℕ) → Call → List ℕ
instead_words None r = codes "same"
instead_words (Some g) r = check_words (as_check r)

-- the row of a call, the answer that the prover got, and what the verifier called and got
abbrev pub again_row : At → Call → Answer → Option (Call × Answer) → List ℕ
again_row l c a None = row l (answer_words a) (codes "-") (codes "-")
again_row l c a (Some p) = row l (answer_words a) (instead_words (as_grind c) p.0) (answer_words p.1)

abbrev pub turn_row : At → Call → Answer → List ℕ
turn_row l c a = again_row l c a (again c a)

-- without a challenger a call has a row, and so has a line that cannot be read
abbrev pub absent_kind : At → LineKind → List ℕ
absent_kind l call = same l (codes "no-challenger")
absent_kind l bound = same l (codes "no-challenger")
absent_kind l _ = []

abbrev pub absent_said : At → Option Said → List ℕ
absent_said l None = same l (codes "bad-line")
absent_said l (Some s) = absent_kind l (kind_of s)

abbrev pub absent : List At → List ℕ
absent [] = []
absent (l ∷ ls) = absent_said l (said_by l.1) ++ absent ls

module _ {Held : Type 0} (v : Voice Held) where
  -- a line that asks for a call, or does not fit the challenger, and what the prover is left with
  abbrev pub call_row : At → Held → Result (Option Call) Unfit → Reply (List ℕ) Held
  call_row l h (Ok None) = reply [] h
  call_row l h (Ok (Some c)) = reply (turn_row l c (v.rule h c).said) (v.rule h c).left
  call_row l h (Err e) = reply (same l (unfit_words e)) h

  abbrev pub said_row : At → Held → Option Said → Reply (List ℕ) Held
  said_row l h None = reply (same l (codes "bad-line")) h
  said_row l h (Some s) = call_row l h (called v.dialect s)

  abbrev pub line_row : At → Held → Reply (List ℕ) Held
  line_row l h = said_row l h (said_by l.1)

  -- what both hold, and before it a finalize with the lines behind it
  abbrev pub finish : Held → List At → List ℕ
  finish h [] = ended (codes "both hold " ++ v.shown h)
  finish h (l ∷ ls) = same l (codes "ok " ++ v.ending h) ++ (absent ls ++ ended (codes "before finalize both hold " ++ v.shown h))

  -- the table of a part whose challenger holds h when it is made: always that the two agree
  abbrev pub table : Held → PartText → List ℕ
  table h p =
      head ++ (same p.0 (codes "ok") ++ (written line_row h (before Finalize p.1)
      ++ (finish (left line_row h (before Finalize p.1)) (from Finalize p.1) ++ ended (codes "agree"))))

-- the table of a part whose make was refused
abbrev pub refused_table : Refusal → PartText → List ℕ
refused_table e p = head ++ (same p.0 (refusal_words e) ++ (absent p.1 ++ ended (codes "agree")))

-- the table of these rows, if there is one
abbrev pub table_of : List ℕ → List ℕ
table_of [] = []
table_of (c ∷ cs) = head ++ ((c ∷ cs) ++ ended (codes "agree"))

-- the table of a part for which no challenger was asked
abbrev pub idle_table : PartText → List ℕ
idle_table p = table_of (absent (p.0 ∷ p.1))
