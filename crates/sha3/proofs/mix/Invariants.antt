use Rattle.sha3.proofs.Lanes.{Mixing}
use Rattle.sha3.proofs.mix.Given as goal

abbrev pub invariant-loop-i : goal.invariant-loop-i
invariant-loop-i l = Mixing l.initial.s l.block l.i l.s
