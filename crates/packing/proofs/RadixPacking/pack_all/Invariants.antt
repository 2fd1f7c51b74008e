use Rattle.std.proofs.Common.{◌≡◌, ◌*◌, ◌≤◌, length, map, drop}
use Rattle.std.specs.List.{range_with_len}
use Rattle.std.specs.Slice.Iter.{chunks_rest, chunks_size}
use Rattle.buffer.specs.Items.{items}
use Rattle.code_bits.specs.CodeBits.{code_bits}
use Rattle.packing.specs.Packing.{pack, group, groups}
use Rattle.packing.proofs.RadixPacking.pack_all.Given as goal

abbrev pub invariant-loop-group : goal.invariant-loop-group
invariant-loop-group g l =
    let n = l.self.limbs in
    let vs = items l.scalars in
    (goal.iterator-loop-group g).can_next l.group-iterator
    × (goal.iterator-loop-group g).is_finite l.group-iterator
    × (chunks_size l.group-iterator ≡ n)
    × (chunks_rest l.group-iterator ≡ drop (length l.yielded * n) vs)
    × (length l.yielded ≤ groups n vs)
    × (items l.words ≡ map (λ i. pack (code_bits g.row.SAMPLED) (group n vs i)) (range_with_len 0 (length l.yielded)))
