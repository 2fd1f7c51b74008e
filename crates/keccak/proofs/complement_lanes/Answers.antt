use Rattle.std.proofs.Common.{◌≡◌, ℕ, ◌^◌, ◌<◌, length, slice_index, rules}
use Rattle.keccak_spec.proofs.Complementing.{six_negated-is}
use Rattle.keccak.proofs.complement_lanes.Goals as goal

pub returns : goal.returns
returns c =
    let s = c.args.s.now in
    let n : length s ≡ 25 = search rules in
    let h : (i : ℕ) → slice_index s i < 2 ^ 64 = search rules in
    six_negated-is s n (λ i l. h i)
