use Rattle.std.proofs.Common.{List, sym, ap, ◌∙◌}
use Rattle.runs.specs.declared.call.Call.{Call}
use Rattle.runs.specs.declared.answer.Answer.{Answer}
use Rattle.runs.specs.Runs.{kind, witness, for_grind, calls_instead}
use Rattle.runs.proofs.Steps.{calls_instead-other, no_witness}
use Rattle.runs.proofs.run.instead.Goals as goal

-- what is called instead, over both values
abbrev replaced : Call → Answer → List Call
replaced c a = calls_instead (kind c) a

pub returns-in-Ground : goal.returns-in-Ground
returns-in-Ground c = sym (ap (λ x. replaced x c.args.said.now) c.in-Grind.is ∙ ap (λ a. for_grind c.in-Grind.bits (witness a)) c.in-Ground.is)

pub returns-in_default-said : goal.returns-in_default-said
returns-in_default-said c =
    sym (ap (λ x. replaced x c.args.said.now) c.in-Grind.is ∙ ap (for_grind c.in-Grind.bits) (no_witness c.args.said.now c.in_default-said.not-Ground))

pub returns-in_default : goal.returns-in_default
returns-in_default c = calls_instead-other (kind c.args.call.now) c.args.said.now c.in_default.not-Grind
