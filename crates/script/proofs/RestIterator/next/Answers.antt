use Rattle.std.proofs.Common.{length, ap, arith}
use Rattle.script.proofs.Reading.{words-first}
use Rattle.script.proofs.RestIterator.next.Goals as goal

pub returns-clause-steps : goal.returns-clause-steps
returns-clause-steps c = simp (c.in_ok-self.was, c.cut.ensures.word, c.cut.ensures.rest) (words-first c.in_ok-self.field-0.now)

pub returns-clause-goes : goal.returns-clause-goes
returns-clause-goes c = record { on = λ _. (tt, tt, omega (arith, ap length (returns-clause-steps c))); keeps = tt; rests = λ _. tt }
