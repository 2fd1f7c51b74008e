use Rattle.std.proofs.Common.{◌^◌, ap, ◌∙◌, arith}
use Rattle.code_bits.specs.CodeBitsProofs.{code_bits-next}
use Rattle.packing.proofs.powers.radix.Goals as goal

pub returns : goal.returns
returns c =
    let m = c.next_power_of_two.ensures in
    m.power.1 ∙ ap (λ n. 2 ^ n) (code_bits-next c.args.sampled c.requires.small _ m.power.0 m.power.1 (omega arith) (omega arith))
