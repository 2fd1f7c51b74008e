use Rattle.std.proofs.Common.{◌≡◌, ap, subst, sym, arith}
use Rattle.code_bits.specs.CodeBitsProofs.{code_bits-least}
use Rattle.packing.specs.Powers.{limbs, greatest_power, IsLimbs}
use Rattle.packing.specs.PowersProofs.{limbs-words}
use Rattle.packing.proofs.powers.limbs.Goals as goal

pub greatest_power-n-requires-clause-base : goal.greatest_power-n-requires-clause-base
greatest_power-n-requires-clause-base c = omega (arith, c.radix.ensures, (code_bits-least c.args.sampled c.requires.small).enough)

pub returns : goal.returns
unfolding limbs
returns c =
    let a = c.args in
    let value : c.max.result ≡ limbs a.sampled a.order = omega (arith, ap (λ b. greatest_power b a.order) c.radix.ensures) in
    record { value = value; words = subst (IsLimbs a.sampled a.order) (sym value) (limbs-words a.sampled a.order c.requires.low c.requires.small c.requires.some (omega arith)) }
