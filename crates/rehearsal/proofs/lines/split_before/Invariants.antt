use Rattle.std.proofs.Common.{◌≡◌, ◌++◌, take, drop}
use Rattle.rehearsal.specs.Lines.{lines_of, before, from}
use Rattle.rehearsal.proofs.lines.split_before.Given as goal

abbrev pub invariant-loop-i : goal.invariant-loop-i
invariant-loop-i l =
    (before l.mark (lines_of l.lines) ≡ lines_of (take l.i l.lines) ++ before l.mark (lines_of (drop l.i l.lines)))
    × (from l.mark (lines_of l.lines) ≡ from l.mark (lines_of (drop l.i l.lines)))
