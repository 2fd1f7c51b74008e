use Rattle.std.proofs.Common.{◌≡◌, take, fold}
use Rattle.keccak_spec.specs.Complemented.{complement, between_rounds}
use Rattle.keccak.proofs.Pairs.{two_rounds}
use Rattle.keccak.proofs.permute.Given as goal

abbrev pub invariant-loop-pair : goal.invariant-loop-pair
invariant-loop-pair l = complement between_rounds l.s ≡ fold two_rounds (complement between_rounds l.initial.s) (take l.pair-index l.pair-items)
