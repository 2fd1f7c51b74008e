use Rattle.std.proofs.Common.{◌≡◌, ◌++◌, ◌-◌, ◌≤◌, length, drop}
use Rattle.rehearsal.specs.Lines.{lines_of}
use Rattle.parts.specs.Scripts.{script}
use Rattle.parts.proofs.play_parts.Given as goal

abbrev pub invariant-loop-make : goal.invariant-loop-make
invariant-loop-make g l =
    let p = g.P.Playing in
    (l.at ≤ length l.fn.lines) × (p.text l.player ++ script p.way (lines_of (drop l.at l.fn.lines)) ≡ p.text l.initial.player ++ script p.way (lines_of l.fn.lines))

abbrev pub decreases-loop-make : goal.decreases-loop-make
decreases-loop-make g l = length l.fn.lines - l.at
