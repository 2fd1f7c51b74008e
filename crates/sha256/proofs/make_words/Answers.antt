use Rattle.std.proofs.Common.{take, arith, rules}
use Rattle.sha256.specs.Sha256.{schedule}
use Rattle.sha256.proofs.Steps.{more_words, all_made}
use Rattle.sha256.proofs.make_words.Goals as goal

pub loop-t-init : goal.loop-t-init
unfolding schedule
loop-t-init c = search rules

pub loop-t-preserved : goal.loop-t-preserved
loop-t-preserved c = more_words (take 16 c.args.w.now) _ _ c.loop-t.t _ c.loop-t.invariant (omega arith) c.extend.ensures (omega arith)

pub returns : goal.returns
returns c = all_made (take 16 c.args.w.now) _ c.loop-t.t c.loop-t.invariant (omega arith)
