use Rattle.std.proofs.Common.{◌-◌, ◌^◌, ap, ◌∙◌}
use lib.Bits.{bit_and}
use Rattle.std.proofs.lemmas.Nat.{and_mask, mod_below, pow_pos}
use Rattle.sampling.proofs.draws.low_bits.Goals as goal

pub returns : goal.returns
returns c =
    let b = c.args.bits in
    let e = ap (λ p. bit_and c.args.value (p - 1)) c.power.ensures ∙ and_mask c.args.value b in
    record { value = e; below = rw e (mod_below c.args.value (2 ^ b) (pow_pos b)) }
