use Rattle.std.proofs.Common.{◌≡◌, vec_items}
use Rattle.script.specs.Words.{all_of, words_of}
use Rattle.script.specs.Meaning.{left}
use Rattle.script.proofs.Reading.{onto}
use Rattle.script.proofs.Rest.numbers.Given as goal

abbrev pub invariant-loop-word : goal.invariant-loop-word
invariant-loop-word l = all_of (words_of (left l.fn.self)) ≡ onto (vec_items l.all) (all_of (words_of (left l.word-iterator)))
