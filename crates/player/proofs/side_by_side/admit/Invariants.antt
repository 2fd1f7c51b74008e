use Rattle.std.proofs.Common.{◌≡◌, drop}
use Rattle.rehearsal.specs.Lines.{lines_of}
use Rattle.player.specs.Admitted.{first_unread}
use Rattle.player.proofs.side_by_side.admit.Given as goal

abbrev pub invariant-loop-line : goal.invariant-loop-line
invariant-loop-line l = first_unread (lines_of l.lines) ≡ first_unread (lines_of (drop l.line-index l.lines))
