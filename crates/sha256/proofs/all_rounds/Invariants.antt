use Rattle.std.proofs.Common.{◌≡◌, ◌*◌}
use Rattle.sha256.specs.Sha256.{rounds}
use Rattle.sha256.proofs.all_rounds.Given as goal

abbrev pub invariant-loop-turn : goal.invariant-loop-turn
invariant-loop-turn l = l.v ≡ rounds (8 * l.turn) l.w l.initial.v
