use Rattle.std.proofs.Common.{◌≡◌, ◌≤◌, Bool, true, false, Ok, Err, Result, sym, refl, ap, ◌∙◌, arith}
use Rattle.std.specs.Result.{result_unwrap_or}
use Rattle.refusal.specs.declared.Refusal.{Refusal}
use Rattle.challenger_traits.specs.Meaning.{reply}
use Rattle.challenger_traits.specs.Grinding.{at_make, says_yes, check_of, accepts}
use Rattle.challenger_traits.specs.GrindingProofs.{grind_found, grind_spent, ground-passes}
use Rattle.challenger_traits.proofs.Checks.{does_by, asked, ground_by}
use Rattle.challenger_traits.proofs.search.grind_by_trial.Goals as goal

-- the library's word for yes
unwrap_or-says_yes : (r : Result Bool Refusal) → result_unwrap_or r false ≡ says_yes r
unwrap_or-says_yes (Ok v) = refl
unwrap_or-says_yes (Err e) = refl

pub returns-then-unwrap_or : goal.returns-then-unwrap_or
returns-then-unwrap_or g c =
    let mean = at_make g.C.CanObserve.after_observe g.C.CanSampleBits.drawing g.C.CanStartCheck.check_start in
    let t = g.C.Holding in
    let k = t.make c.args.c.now in
    let h = t.held_value c.args.c.now in
    let q = asked c.args.bits c.order-order.ensures c.if-not-bits_fit.ensures in
    let within : c.args.budget ≤ (mean k).drawing.order = omega (arith, c.order-order.ensures) in
    let place = ap (λ x. check_of (mean (t.make x)) (t.held_value x) c.args.bits c.loop-w.w) c.loop-w.invariant.0 in
    let did = c.check_by_parts.ensures.does in
    let holds : accepts (mean k) h c.args.bits c.loop-w.w ≡ true =
    sym (c.unwrap_or.ensures ∙ unwrap_or-says_yes c.check_by_parts.result ∙ ap says_yes (did.answer ∙ ap (λ r. r.said) place)) ∙ c.if-unwrap_or.true in
    let is = grind_found (mean k) h c.args.bits c.args.budget q (omega arith) within c.loop-w.w c.loop-w-test.true c.loop-w.invariant.1 holds in
    let e = is ∙ ap (reply _) (sym (did.state ∙ ap (λ r. r.left) place)) in
    record {
      does = does_by e (did.same_make ∙ ap t.make c.loop-w.invariant.0);
      passes = ground-passes (mean k) h c.args.bits c.args.budget e;
      least = ground_by (mean k) h c.args.bits c.args.budget e;
    }

pub returns-clause-does : goal.returns-clause-does
returns-clause-does g c =
    let t = g.C.Holding in
    let k = t.make c.args.c.now in
    let h = t.held_value c.args.c.now in
    let m = at_make g.C.CanObserve.after_observe g.C.CanSampleBits.drawing g.C.CanStartCheck.check_start k in
    let q = asked c.args.bits c.order-order.ensures c.if-not-bits_fit.ensures in
    let within : c.args.budget ≤ m.drawing.order = omega (arith, c.order-order.ensures) in
    let is = grind_spent m h c.args.bits c.args.budget q (omega arith) within (λ k lt. c.loop-w.invariant.1 k (omega arith)) in
    does_by (is ∙ ap (reply _) (sym (ap t.held_value c.loop-w.invariant.0))) (ap t.make c.loop-w.invariant.0)
