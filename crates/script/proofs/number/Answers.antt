use Rattle.std.proofs.Common.{◌≡◌, true, ◌∙◌, lit<}
use Rattle.std.proofs.lemmas.Str.Parse.{numerals_by_value, tells_all_ascii_digits, parse_plain}
use Rattle.std.proofs.lemmas.Str.Pattern.{starts_char}
use Rattle.std.proofs.lemmas.Bool.{false≢true}
use Rattle.std.specs.Str.{all_ascii_digits}
use Rattle.script.proofs.Reading.{reads_number, ok_kept}
use Rattle.script.proofs.number.Goals as goal

pub returns : goal.returns
returns c =
    let own = numerals_by_value (λ ds. all_ascii_digits ds ≡ true) tells_all_ascii_digits in
    let plain = starts_char 43 c.args.word.now _ c.if-starts_with.ensures.cases (lit< tt) (lit< tt) in
    let read = reads_number c.args.word.now c.parse.result (parse_plain own 64 c.args.word.now c.parse.result c.parse.ensures.value.0 (λ e. false≢true (plain.1 e))) in
    ok_kept _ c.parse.result c.map_err.result c.map_err.ensures.cases ∙ read
