use Rattle.std.proofs.Common.{◌≡◌, length}
use Rattle.packing.proofs.Groups.{end_word}
use Rattle.packing.proofs.RadixPacking.pack_group.Given as goal

abbrev pub invariant-loop-scalar : goal.invariant-loop-scalar
invariant-loop-scalar g l = l.word ≡ end_word g.row.SAMPLED l.group (length l.yielded)
