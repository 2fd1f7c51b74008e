use Rattle.std.proofs.Common.{◌≡◌, ◌*◌, ◌++◌, length, drop}
use Rattle.buffer.specs.Items.{items}
use Rattle.packing.specs.Packing.{digits_of_all}
use Rattle.multi_field_blocks.proofs.squeezing.split_all.Given as goal

abbrev pub invariant-loop-word : goal.invariant-loop-word
invariant-loop-word g l =
    (length (items l.squeeze) ≡ l.word-index * l.digits)
    × (items l.squeeze ++ digits_of_all g.row.SAMPLED l.digits (drop l.word-index (items l.outputs)) ≡ digits_of_all g.row.SAMPLED l.digits (items l.outputs))
