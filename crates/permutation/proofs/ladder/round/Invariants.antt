use Rattle.std.proofs.Common.{◌≡◌}
use Rattle.permutation.specs.Rows.{IsRow}
use Rattle.permutation.specs.Ladder.{ladder_steps}
use Rattle.permutation.proofs.ladder.round.Given as goal

abbrev pub invariant-loop-i : goal.invariant-loop-i
invariant-loop-i g l = IsRow g.row.ORDER l.row × (l.row ≡ ladder_steps g.D.Domain.arithmetic l.r l.i l.initial.row)
