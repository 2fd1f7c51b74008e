use Rattle.std.proofs.Common.{◌≡◌, Some, refl, sym, inr, rules}
use Rattle.script.specs.Meaning.{left}
use Rattle.script.proofs.Reading.{not_same}
use Rattle.script.proofs.Rest.transcript.Goals as goal

pub returns-in_default : goal.returns-in_default
returns-in_default c =
    let d = c.in_default in
    let some : left c.args.self ≡ Some c.in_ok-ok_or.field-0.now = search rules in
    inr (rw (some, sym c.cut.ensures.word, not_same _ _ d.not-duplex, not_same _ _ d.not-hash) refl)
