use Rattle.std.proofs.Common.{◌≡◌, ◌++◌, drop, string_bytes}
use Rattle.played.specs.Voices.{voice}
use Rattle.rehearsal.specs.Lines.{lines_of, written, left}
use Rattle.parts.specs.Sheets.{line_answer}
use Rattle.player.proofs.playing.Sheet.play_lines.Given as goal

abbrev pub invariant-loop-line : goal.invariant-loop-line
invariant-loop-line g l =
    let t = g.C.Holding in
    let k = t.make l.initial.challenger in
    let answer = line_answer (voice g.C.CanTakeCalls.rule g.C.Shown.shown g.C.Shown.ending g.C.Played.speaks g.C.Played.found k) in
    let h = t.held_value l.initial.challenger in
    let rest = lines_of (drop l.line-index l.lines) in
    (string_bytes l.self.answers ++ written answer (t.held_value l.challenger) rest ≡ string_bytes l.initial.self.answers ++ written answer h (lines_of l.lines))
    × (left answer (t.held_value l.challenger) rest ≡ left answer h (lines_of l.lines))
    × (t.make l.challenger ≡ k)
