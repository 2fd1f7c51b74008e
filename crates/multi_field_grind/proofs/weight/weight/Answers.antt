use Rattle.std.proofs.Common.{◌*◌, ap, arith}
use Rattle.multi_field_grind.proofs.Packs.{weight_few}
use Rattle.multi_field_grind.proofs.weight.weight.Goals as goal

pub overflow_mul-code_bits : goal.overflow_mul-code_bits
overflow_mul-code_bits g c =
    let n = c.args.packing.now in
    let few = weight_few g.row.SAMPLED g.row.ORDER c.args.place n.low n.small n.less g.ORDER.fits.fits (omega (arith, n.sized)) in
    omega (arith, few, ap (λ b. b * c.args.place) c.code_bits.ensures.value)

pub power-requires : goal.power-requires
power-requires g c =
    let n = c.args.packing.now in
    let few = weight_few g.row.SAMPLED g.row.ORDER c.args.place n.low n.small n.less g.ORDER.fits.fits (omega (arith, n.sized)) in
    record { few = omega (arith, few, ap (λ b. b * c.args.place) c.code_bits.ensures.value) }
