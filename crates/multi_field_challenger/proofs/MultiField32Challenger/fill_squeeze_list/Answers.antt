use Rattle.std.proofs.Common.{◌*◌, ◌≤◌, length, ap, ◌∙◌, arith, lit<}
use Rattle.std.proofs.lemmas.Nat.{mul-le}
use Rattle.buffer.specs.Items.{items}
use Rattle.packing.specs.Powers.{digits}
use Rattle.packing.specs.Packing.{digits_of_all}
use Rattle.multi_field_blocks.proofs.Lists.{digits_of_all-length, digits-some, digits-few}
use Rattle.multi_field_challenger.proofs.MultiField32Challenger.fill_squeeze_list.Goals as goal

pub split_all-requires : goal.split_all-requires
split_all-requires g c =
    let n = c.args.self.now.packing in
    let few = digits-few g.row.SAMPLED g.row.ORDER g.F.Domain.arithmetic.low n.less g.ORDER.fits.fits in
    (lit< tt, (lit< tt, (omega (arith, n.low), omega (arith, c.squeeze_num_f_elms-digits.ensures, few))))

pub returns-clause-some : goal.returns-clause-some
returns-clause-some g c =
    let n = c.args.self.now.packing in
    let o = items c.ensure_outputs.new.sponge.outputs in
    let one = digits-some g.row.SAMPLED g.row.ORDER g.F.Domain.arithmetic.low n.less g.ORDER.fits.fits in
    let d = digits g.row.SAMPLED g.row.ORDER in
    let some : 1 * 1 ≤ length o * d = mul-le 1 1 (length o) d c.ensure_outputs.ensures.some (omega (arith, one)) in
    let filled = c.split_all.ensures ∙ ap (λ m. digits_of_all g.row.SAMPLED m (items c.outputs.result)) c.squeeze_num_f_elms-digits.ensures ∙ ap (digits_of_all g.row.SAMPLED d) c.outputs.ensures in
    omega (arith, some, ap length filled, digits_of_all-length g.row.SAMPLED d o)
