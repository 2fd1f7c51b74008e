use Rattle.std.proofs.Common.{◌≡◌, ◌++◌, drop, string_bytes}
use Rattle.rehearsal.specs.Lines.{lines_of}
use Rattle.rehearsal.specs.Tables.{absent}
use Rattle.rehearsal.proofs.sides.Table.absent.Given as goal

abbrev pub invariant-loop-line : goal.invariant-loop-line
invariant-loop-line l = string_bytes l.self.text ++ absent (lines_of (drop l.line-index l.lines)) ≡ string_bytes l.initial.self.text ++ absent (lines_of l.lines)
