use Rattle.std.proofs.Common.{Some, None, lit<}
use Rattle.std.proofs.lemmas.Str.Pattern.{split_parts}
use Rattle.script.proofs.Cutting.{no_space, at_space}
use Rattle.script.proofs.cut.Goals as goal

pub returns-in-Some : goal.returns-in-Some
returns-in-Some c =
    let parts = split_parts 32 c.args.text.now (Some (c.in-Some.word, c.in-Some.rest)) c.in-Some.ensures.cases (lit< tt) in
    let both = at_space c.in-Some.word.now c.in-Some.rest.now parts.1 in
    rw parts.0 (record { word = both.0; rest = both.1 })

pub returns-in-None : goal.returns-in-None
returns-in-None c =
    let lacks = split_parts 32 c.args.text.now None c.in-None.ensures.cases (lit< tt) in
    let both = no_space c.args.text.now lacks in
    record { word = both.0; rest = both.1 }
