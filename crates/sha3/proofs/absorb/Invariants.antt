use Rattle.std.proofs.Common.{◌≡◌, take, fold}
use Rattle.sha3.specs.Sha3.{state_after_block}
use Rattle.sha3.proofs.absorb.Given as goal

abbrev pub invariant-loop-block : goal.invariant-loop-block
invariant-loop-block l = l.s ≡ fold state_after_block l.initial.s (take l.block-index l.blocks)
