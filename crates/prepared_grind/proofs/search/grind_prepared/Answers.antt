use Rattle.std.proofs.Common.{◌≡◌, ◌%◌, ◌^◌, ◌≤◌, true, eqb, sym, ap, ◌∙◌, arith, below_more}
use Rattle.challenger_traits.specs.Meaning.{reply}
use Rattle.challenger_traits.specs.Grinding.{at_make, check_of, accepts}
use Rattle.challenger_traits.specs.GrindingProofs.{grind_found, grind_spent, ground-passes}
use Rattle.challenger_traits.proofs.Checks.{does_by, asked, ground_by}
use Rattle.prepared_grind.proofs.search.grind_prepared.Goals as goal

pub loop-w-preserved : goal.loop-w-preserved
loop-w-preserved g c =
    let draws = g.C.CanPrepareCheck.drawn_value in
    let inv = c.loop-w.invariant in
    let q = asked c.args.bits c.order-order.ensures c.if-not-bits_fit.ensures in
    let is = c.passes.ensures ∙ ap (λ x. eqb (draws (g.C.Holding.make x) c.prepare_check-prepared.result c.loop-w.w % 2 ^ c.args.bits) 0) inv.0
    ∙ c.prepare_check-prepared.ensures c.args.bits q (omega arith) c.loop-w.w (omega (arith, c.order-order.ensures)) in
    (inv.0, below_more _ _ inv.1 (sym is ∙ c.if-passes.false))

pub returns-then-passes : goal.returns-then-passes
returns-then-passes g c =
    let mean = at_make g.C.CanObserve.after_observe g.C.CanSampleBits.drawing g.C.CanStartCheck.check_start in
    let t = g.C.Holding in
    let k = t.make c.args.c.now in
    let h = t.held_value c.args.c.now in
    let w = c.loop-w.w in
    let inv = c.loop-w.invariant in
    let q = asked c.args.bits c.order-order.ensures c.if-not-bits_fit.ensures in
    let within : c.args.budget ≤ (mean k).drawing.order = omega (arith, c.order-order.ensures) in
    let is = c.passes.ensures ∙ ap (λ x. eqb (g.C.CanPrepareCheck.drawn_value (t.make x) c.prepare_check-prepared.result w % 2 ^ c.args.bits) 0) inv.0
    ∙ c.prepare_check-prepared.ensures c.args.bits q (omega arith) w (omega (arith, within)) in
    let holds : accepts (mean k) h c.args.bits w ≡ true = sym is ∙ c.if-passes.true in
    let did = c.check_by_parts.ensures.does in
    let left = did.state ∙ ap (λ x. (check_of (mean (t.make x)) (t.held_value x) c.args.bits w).left) inv.0 in
    let e = grind_found (mean k) h c.args.bits c.args.budget q (omega arith) within w c.loop-w-test.true inv.1 holds ∙ ap (reply _) (sym left) in
    record {
      does = does_by e (did.same_make ∙ ap t.make inv.0);
      passes = ground-passes (mean k) h c.args.bits c.args.budget e;
      least = ground_by (mean k) h c.args.bits c.args.budget e;
    }

pub returns : goal.returns
returns g c =
    let t = g.C.Holding in
    let k = t.make c.args.c.now in
    let h = t.held_value c.args.c.now in
    let m = at_make g.C.CanObserve.after_observe g.C.CanSampleBits.drawing g.C.CanStartCheck.check_start k in
    let inv = c.loop-w.invariant in
    let q = asked c.args.bits c.order-order.ensures c.if-not-bits_fit.ensures in
    let within : c.args.budget ≤ m.drawing.order = omega (arith, c.order-order.ensures) in
    let e = grind_spent m h c.args.bits c.args.budget q (omega arith) within (λ k lt. inv.1 k (omega arith)) ∙ ap (reply _) (sym (ap t.held_value inv.0)) in
    record { does = does_by e (ap t.make inv.0); passes = tt; least = ground_by m h c.args.bits c.args.budget e }
