use Rattle.std.proofs.Common.{◌≡◌, true, ◌++◌, drop, string_bytes}
use Rattle.played.specs.Voices.{voice}
use Rattle.rehearsal.specs.Lines.{lines_of, written, left}
use Rattle.rehearsal.specs.Tables.{line_row}
use Rattle.rehearsal.specs.Ends.{Both}
use Rattle.rehearsal.proofs.sides.Table.lines.Given as goal

abbrev pub invariant-loop-line : goal.invariant-loop-line
invariant-loop-line g l =
    let t = g.C.Holding in
    let k = t.make l.initial.ends.prover in
    let row = line_row (voice g.C.CanTakeCalls.rule g.C.Shown.shown g.C.Shown.ending g.C.Played.speaks g.C.Played.found k) in
    let h = t.held_value l.initial.ends.prover in
    let rest = lines_of (drop l.line-index l.lines) in
    (l.alike ≡ true)
    × (string_bytes l.self.text ++ written row (t.held_value l.ends.prover) rest ≡ string_bytes l.initial.self.text ++ written row h (lines_of l.lines))
    × (left row (t.held_value l.ends.prover) rest ≡ left row h (lines_of l.lines))
    × Both t.make t.held_value k (t.held_value l.ends.prover) l.ends
