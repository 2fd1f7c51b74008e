use Rattle.std.proofs.Common.{◌≡◌, arith, sym, ◌∙◌, subst}
use Rattle.code_bits.specs.CodeBits.{code_bits, IsLeastBits}
use Rattle.code_bits.specs.CodeBitsProofs.{exponent, at_most, code_bits-least, code_bits-next}
use Rattle.code_bits.proofs.code_bits.Goals as goal

pub returns : goal.returns
returns c =
    let n = c.args.order in
    let m = c.next_power_of_two.ensures in
    let value : c.ilog2.result ≡ code_bits n =
    exponent _ m.power.0 _ m.power.1 c.ilog2.ensures.power_le c.ilog2.ensures.next_power_gt ∙ code_bits-next n c.requires.small _ m.power.0 m.power.1 (omega arith) (omega arith) in
    record { value = value; least = subst (IsLeastBits n) (sym value) (code_bits-least n c.requires.small); few = omega (arith, value, at_most n c.requires.small) }
