use Rattle.std.proofs.Common.{◌≡◌, List, ◌++◌, length, take, drop}
use Rattle.runs.specs.Runs.{answers, value_after, CanBeHeldAlong}
use Rattle.runs.specs.declared.answer.Answer.{Answer}
use Rattle.runs.specs.Interface.{EachRefusedAsChecksAre}
use Rattle.runs.proofs.run.prove_run.Given as goal

abbrev pub invariant-loop-i : goal.invariant-loop-i
invariant-loop-i g l =
    let t = g.C.Holding in
    let k = t.make l.initial.c in
    let rule = g.C.CanTakeCalls.rule k in
    let h = t.held_value l.initial.c in
    record {
      places : length l.said ≡ length l.calls;
      said : take l.i l.said ++ answers rule (t.held_value l.c) (drop l.i l.calls) ≡ answers rule h l.calls;
      left : value_after rule (t.held_value l.c) (drop l.i l.calls) ≡ value_after rule h l.calls;
      make : t.make l.c ≡ k;
      refusals : (xs : List Answer) → EachRefusedAsChecksAre (drop l.i l.calls) xs → EachRefusedAsChecksAre l.calls (take l.i l.said ++ xs);
      along : CanBeHeldAlong rule (t.can_be_held k) (t.held_value l.c) (drop l.i l.calls) → CanBeHeldAlong rule (t.can_be_held k) h l.calls;
    }
