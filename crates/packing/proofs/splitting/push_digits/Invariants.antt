use Rattle.std.proofs.Common.{◌≡◌, ◌+◌, ◌-◌, ◌++◌, length}
use Rattle.buffer.specs.Items.{items}
use Rattle.packing.specs.Packing.{digits_of}
use Rattle.packing.proofs.splitting.push_digits.Given as goal

abbrev pub invariant-loop : goal.invariant-loop
invariant-loop g l =
    (length (items l.scalars) ≡ length (items l.initial.scalars) + l.counter)
    × (items l.scalars ++ digits_of g.row.SAMPLED (l.count - l.counter) l.rest ≡ items l.initial.scalars ++ digits_of g.row.SAMPLED l.count l.word)
