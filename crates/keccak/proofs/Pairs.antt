-- Two rounds to a turn.
use Rattle.std.proofs.Common.{ℕ, List, get_or}
use Rattle.keccak_spec.specs.Keccak.{round}

abbrev pub two_rounds : List ℕ → List ℕ → List ℕ
two_rounds a pair = round (round a (get_or pair 0 0)) (get_or pair 1 0)
