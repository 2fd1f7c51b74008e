use Rattle.std.proofs.Common.{◌<◌, ◌≤◌, length, rules, arith}
use Rattle.buffer.specs.Items.{items}
use Rattle.buffer.proofs.Facts.{items-length}
use Rattle.sponge.proofs.Turning.{rate_small}
use Rattle.packing.proofs.Facts.{words-few}
use Rattle.multi_field_blocks.proofs.absorbing.flush.Goals as goal

pub absorb-requires : goal.absorb-requires
absorb-requires g c =
    let s = c.args.sponge.now in
    let p = c.args.pending.now in
    let few : length (items c.pack_all.new.words) ≤ s.rate = words-few c.args.packing.now g.ORDER.fits.fits s.rate (items p) _ c.pack_all.ensures c.requires.room in
    let tag : c.len.result < g.row.ORDER = omega (arith, c.len.ensures, items-length p, p.within, few, rate_small s, g.D.Domain.arithmetic.low) in
    search rules
