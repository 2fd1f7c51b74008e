use Rattle.std.proofs.Common.{length, ap, ◌∙◌, arith}
use Rattle.buffer.specs.Items.{items}
use Rattle.code_bits.specs.CodeBits.{code_bits}
use Rattle.packing.specs.Powers.{limbs}
use Rattle.packing.specs.Packing.{packed_words}
use Rattle.packing.specs.PackingProofs.{limbs-some}
use Rattle.multi_field_grind.proofs.Packs.{packed_words-some}
use Rattle.multi_field_grind.proofs.check.words_before.Goals as goal

pub returns-clause-some : goal.returns-clause-some
returns-clause-some g c =
    let n = c.args.packing.now in
    let m = limbs g.row.SAMPLED g.row.ORDER in
    let one = limbs-some g.row.SAMPLED g.row.ORDER n.low n.small n.less g.ORDER.fits.fits in
    let e = c.pack_all.ensures ∙ ap (packed_words (code_bits g.row.SAMPLED) m) c.push.ensures in
    omega (arith, ap length e, packed_words-some (code_bits g.row.SAMPLED) m one (items c.args.pending.now) 0)
