use Rattle.std.proofs.Common.{◌≡◌, List, ◌+◌, ◌≤◌, ◌++◌, take, drop, length}
use Rattle.runs.specs.Runs.{answers, value_after, repeated_calls}
use Rattle.runs.specs.declared.answer.Answer.{Answer}
use Rattle.runs.specs.Interface.{EachRefusedAsChecksAre}
use Rattle.runs.proofs.run.verify_run.Given as goal

abbrev pub invariant-loop-call : goal.invariant-loop-call
invariant-loop-call g l =
    let t = g.C.Holding in
    let k = t.make l.initial.c in
    let rule = g.C.CanTakeCalls.rule k in
    let h = t.held_value l.initial.c in
    let i = length l.yielded in
    let left = repeated_calls (drop i l.calls) (drop i l.proved) in
    (l.n ≤ i)
    × (l.n + length left ≡ length (repeated_calls l.calls l.proved))
    × (take l.n l.said ++ answers rule (t.held_value l.c) left ≡ answers rule h (repeated_calls l.calls l.proved))
    × (value_after rule (t.held_value l.c) left ≡ value_after rule h (repeated_calls l.calls l.proved))
    × ((xs : List Answer) → EachRefusedAsChecksAre left xs → EachRefusedAsChecksAre (repeated_calls l.calls l.proved) (take l.n l.said ++ xs))
    × (t.make l.c ≡ k)
    × (drop l.n l.said ≡ drop l.n l.initial.said)
