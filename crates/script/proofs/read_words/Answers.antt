use Rattle.std.proofs.Common.{sym}
use Rattle.script.proofs.Reading.{not_same}
use Rattle.script.proofs.read_words.Goals as goal

pub returns-in_default : goal.returns-in_default
returns-in_default c = rw (sym c.cut.ensures.word, sym c.cut.ensures.rest, not_same _ _ c.in_default.not-make, not_same _ _ c.in_default.not-hashof, not_same _ _ c.in_default.not-helpers) c.call.ensures
