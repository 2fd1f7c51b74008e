use Rattle.std.proofs.Common.{◌≡◌, ◌∷◌, ◌++◌, take, drop, ap, sym, ◌∙◌}
use Rattle.std.proofs.lemmas.List.{append_assoc, length-drop}
use Rattle.std.proofs.Math.Seq.{take-length}
use Rattle.rehearsal.specs.declared.lines.Mark.TheVariants.{Make}
use Rattle.rehearsal.specs.Lines.{line_of, lines_of, before, from}
use Rattle.script.specs.Grammar.{said_by}
use Rattle.parts.specs.Scripts.{read_part, script}
use Rattle.parts.proofs.FirstPart.{script_first, place_behind}
use Rattle.parts.proofs.play_parts.Goals as goal

pub loop-make-preserved : goal.loop-make-preserved
loop-make-preserved g c =
    let p = g.P.Playing in
    let make = c.in-Some.make.now in
    let behind = c.in-Some.behind.now in
    let rest : drop c.loop-make.at c.args.lines.now ≡ make ∷ behind = sym (ap (λ n. take n (drop c.loop-make.at c.args.lines.now)) (sym (length-drop c.loop-make.at c.args.lines.now)) ∙ take-length (drop c.loop-make.at c.args.lines.now)) ∙ c.in-Some.ensures.cases.0 in
    let moved = place_behind c.loop-make.at c.args.lines.now make c.split_before.result.0.now c.split_before.result.1.now c.loop-make.invariant.0
    (rest ∙ ap (λ ls. make ∷ ls) c.split_before.ensures.whole) in
    let wrote : p.text c.play_part.new.player ≡ p.text c.loop-make.player ++ read_part p.way (line_of make, before Make (lines_of behind)) (said_by make.text.now) =
    c.in_ok-play_part.ensures ∙ ap (λ ls. p.text c.loop-make.player ++ read_part p.way (line_of make, ls) (said_by make.text.now)) c.split_before.ensures.before in
    let later = script p.way (from Make (lines_of behind)) in (
      moved.0,
      ap (λ ls. p.text c.play_part.new.player ++ script p.way (lines_of ls)) moved.1
          ∙ ap (λ ls. p.text c.play_part.new.player ++ script p.way ls) c.split_before.ensures.from
          ∙ ap (λ t. t ++ later) wrote
          ∙ append_assoc (p.text c.loop-make.player) _ later
          ∙ ap (λ t. p.text c.loop-make.player ++ t) (sym (script_first p.way (line_of make) (lines_of behind)))
          ∙ ap (λ ls. p.text c.loop-make.player ++ script p.way (lines_of ls)) (sym rest)
          ∙ c.loop-make.invariant.1,
    )
