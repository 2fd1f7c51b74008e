-- Answers in words, as bytes.
use Rattle.std.specs.Prelude.{ℕ, Bool, true, false, List, [], ◌∷◌, ◌++◌, codes}
use Rattle.refusal.specs.Spoken.{spaced_numbers, refusal_words}
use Rattle.runs.specs.declared.answer.Answer.{Answer}
use Rattle.runs.specs.declared.answer.Answer.TheVariants.{Done, Code, Bits, Checked, Ground, Refused, Absent}

abbrev pub yes_or_no : Bool → List ℕ
yes_or_no true = codes "ok yes"
yes_or_no false = codes "ok no"

abbrev pub answer_words : Answer → List ℕ
answer_words Done = codes "ok"
answer_words (Code n) = codes "ok " ++ spaced_numbers (n ∷ [])
answer_words (Bits n) = codes "ok " ++ spaced_numbers (n ∷ [])
answer_words (Checked v) = yes_or_no v
answer_words (Ground w t) = codes "ok " ++ spaced_numbers (w ∷ t ∷ [])
answer_words (Refused e) = refusal_words e
answer_words Absent = codes "no-call"
