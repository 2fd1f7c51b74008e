-- The lines of a script.
use Rattle.std.specs.Prelude.{ℕ, ◌+◌, ◌-◌, ◌^◌, min, Bool, List, [], ◌∷◌, ◌++◌, map, codes, ◌==◌, if◌then◌else◌}
use Rattle.std.specs.List.{enumerate_from, slice_split}
use Rattle.std.specs.Str.{bytes_eq}
use Rattle.challenger_traits.specs.Meaning.{Reply, reply}
use Rattle.script.specs.Words.{first_word}
use Rattle.rehearsal.specs.declared.lines.Numbered.{Numbered}
use Rattle.rehearsal.specs.declared.lines.Part.{Part}
use Rattle.rehearsal.specs.declared.lines.Mark.{Mark}
use Rattle.rehearsal.specs.declared.lines.Mark.TheVariants.{Make, Finalize}

-- a line's number, and its text
abbrev pub At : Type 0
At = ℕ × List ℕ

abbrev pub line_of : Numbered → At
line_of l = (l.number, l.text.now)

abbrev pub lines_of : List Numbered → List At
lines_of lines = map line_of lines

-- what stands between the line ends of a text, each with its number from 1, as far as numbers go
abbrev pub numbered_lines : List ℕ → List At
numbered_lines text = map (λ p. (min (p.0 + 1) (2 ^ 64 - 1), p.1)) (enumerate_from 0 (slice_split (λ b. b == 10) text))

-- is it a line that begins with make, or the line finalize?
abbrev pub marks : Mark → At → Bool
marks Make l = bytes_eq (first_word l.1) (codes "make")
marks Finalize l = bytes_eq l.1 (codes "finalize")

-- the lines before the first so marked, and those from it on
abbrev pub before : Mark → List At → List At
before m [] = []
before m (l ∷ ls) = if marks m l then [] else l ∷ before m ls

abbrev pub from : Mark → List At → List At
from m [] = []
from m (l ∷ ls) = if marks m l then l ∷ ls else from m ls

-- a part: its first line, and those that follow
abbrev pub PartText : Type 0
PartText = At × List At

abbrev pub part_of : Part → PartText
part_of p = (line_of p.make, lines_of p.lines.now)

-- lines in turn, by what each of them writes and leaves
module _ {Held : Type 0} (step : At → Held → Reply (List ℕ) Held) where
  abbrev pub written : Held → List At → List ℕ
  written h [] = []
  written h (l ∷ ls) = (step l h).said ++ written (step l h).left ls

  abbrev pub left : Held → List At → Held
  left h [] = h
  left h (l ∷ ls) = left (step l h).left ls

  abbrev pub played : Held → List At → Reply (List ℕ) Held
  played h ls = reply (written h ls) (left h ls)
