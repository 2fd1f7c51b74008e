use Rattle.std.proofs.Common.{◌≡◌, ◌*◌, ◌≤◌, length, drop}
use Rattle.std.specs.Slice.Iter.{chunks_rest, chunks_size}
use Rattle.sponge.specs.SpongeHeld.{held_value, make_meaning, SameMake}
use Rattle.packing.specs.Packing.{groups}
use Rattle.multi_field_blocks.specs.Blocks.{after_groups}
use Rattle.multi_field_blocks.proofs.absorbing.absorb_words.Given as goal

abbrev pub invariant-loop-group : goal.invariant-loop-group
invariant-loop-group g l =
    let s = l.initial.sponge in
    let i = length l.yielded in
    (goal.iterator-loop-group g).can_next l.group-iterator
    × (goal.iterator-loop-group g).is_finite l.group-iterator
    × (chunks_size l.group-iterator ≡ s.rate)
    × (chunks_rest l.group-iterator ≡ drop (i * s.rate) l.words)
    × (i ≤ groups s.rate l.words)
    × SameMake l.sponge s
    × (held_value l.sponge ≡ after_groups (make_meaning s) (held_value s) l.words i)
