use Rattle.std.proofs.Common.{◌≡◌, Some, None, Option, sym, ap, ◌∙◌, subst}
use Rattle.runs.specs.declared.call.Call.{Call}
use Rattle.runs.specs.Runs.{as_list}
use Rattle.rehearsal.proofs.Repeating.{called_told}
use Rattle.rehearsal.proofs.turns.take_turn.Goals.{in-Some-instead, in-None}
use Rattle.rehearsal.proofs.turns.take_turn.Goals as goal

pub returns-clause-again : goal.returns-clause-again
returns-clause-again g c =
    let k = g.C.Holding.make c.args.ends.now.prover in
    let both = c.requires.both in
    let alike = subst (g.C.MadeLike.same_meaning k) (sym both.verifier_make) (g.met.C.Played.means_itself k) in
    let agree = c.in-Some.ensures.agreement alike (sym both.verifier_held) in
    let told = λ (o : Option Call) (is : c.instead.result ≡ o).
    called_told c.args.call.now c.agree.new.proved c.agree.new.said c.in-Some.field-0 o _ c.agree.auto.proved agree.repeats (sym (ap as_list is) ∙ c.instead.ensures) in
    elim c.match-instead.branch [
      | in-Some-instead w ↦ (w.again-is ∙ told (Some w.in-Some-instead.repeated) w.in-Some-instead.is)
      | in-None w ↦ (w.again-is ∙ told None w.in-None.is)
    ]
