use Rattle.std.proofs.Common.{◌≡◌, ◌++◌, drop, string_bytes}
use Rattle.rehearsal.specs.Lines.{lines_of}
use Rattle.parts.specs.Sheets.{idle}
use Rattle.player.proofs.playing.Sheet.idle_lines.Given as goal

abbrev pub invariant-loop-line : goal.invariant-loop-line
invariant-loop-line l = string_bytes l.self.answers ++ idle (lines_of (drop l.line-index l.lines)) ≡ string_bytes l.initial.self.answers ++ idle (lines_of l.lines)
