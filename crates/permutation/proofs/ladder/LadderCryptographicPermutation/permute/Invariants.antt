use Rattle.std.proofs.Common.{◌≡◌}
use Rattle.permutation.specs.Rows.{IsRow}
use Rattle.permutation.specs.Ladder.{ladder_rounds}
use Rattle.permutation.proofs.ladder.LadderCryptographicPermutation.permute.Given as goal

abbrev pub invariant-loop-r : goal.invariant-loop-r
invariant-loop-r g l = IsRow g.row.ORDER l.row × (l.row ≡ ladder_rounds g.D.Domain.arithmetic l.r l.initial.row)
