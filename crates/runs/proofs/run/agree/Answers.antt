use Rattle.runs.proofs.Agreement.{agreement}
use Rattle.runs.proofs.run.agree.Goals as goal

pub returns-clause-agreement : goal.returns-clause-agreement
returns-clause-agreement g c one_make began =
    let k = g.P.Holding.make c.args.prover.now in
    let l = g.V.Holding.make c.args.verifier.now in
    agreement (g.P.Holding.can_be_held k) (g.P.CanTakeCalls.rule k) (g.V.CanTakeCalls.rule l) (g.P.CanTakeCalls.stands k) (g.met.P.MadeLike.same_rules k l one_make)
    _ _ _ _ _ _ _ c.prove_run.ensures.run c.prove_run.ensures.holds c.verify_run.ensures.run began
