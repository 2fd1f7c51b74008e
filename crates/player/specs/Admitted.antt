-- The lines that can be read, and the answers that tell of others.
use Rattle.std.specs.Prelude.{◌≡◌, ℕ, Bool, List, [], ◌∷◌, Some, None, Option, is_some, codes, ◌==◌, if◌then◌else◌}
use Rattle.std.specs.List.{list_any, slice_split}
use Rattle.std.specs.Str.{bytes_eq}
use Rattle.script.specs.Grammar.{said_by}
use Rattle.rehearsal.specs.Lines.{At}
use Rattle.player.specs.declared.side_by_side.Stop.{Stop}
use Rattle.player.specs.declared.side_by_side.Stop.TheVariants.{Unreadable, Memory}

-- a line that says something
abbrev pub readable : List ℕ → Bool
readable text = is_some (said_by text)

-- the number of the first line that cannot be read
abbrev pub first_unread : List At → Option ℕ
first_unread [] = None
first_unread (l ∷ ls) = if readable l.1 then first_unread ls else Some l.0

-- why a script is not rehearsed: that line, or short memory
abbrev pub Names : Option ℕ → Stop → Type 0
Names o (Unreadable n fault) = o ≡ Some n
Names o Memory = Unit {0}

-- is a line of these answers bad-line?
abbrev pub tells_bad_line : List ℕ → Bool
tells_bad_line answers = list_any (λ l. bytes_eq l (codes "bad-line")) (slice_split (λ b. b == 10) answers)
