use Rattle.std.proofs.Common.{take}
use Rattle.sha256.proofs.Steps.{Made}
use Rattle.sha256.proofs.make_words.Given as goal

abbrev pub invariant-loop-t : goal.invariant-loop-t
invariant-loop-t l = Made (take 16 l.initial.w) l.w l.t
