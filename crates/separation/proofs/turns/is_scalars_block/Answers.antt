use Rattle.std.proofs.Common.{◌≡◌, ◌*◌, ap, arith}
use Rattle.packing.proofs.Facts.{product_small}
use Rattle.separation.proofs.turns.is_scalars_block.Goals as goal

pub overflow_mul-batch : goal.overflow_mul-batch
overflow_mul-batch g c =
    let n = c.new.result in
    let r : c.limbs.result * c.args.rate ≡ n.limbs * c.args.rate = ap (λ m. m * c.args.rate) c.limbs.ensures in
    omega (arith, r, product_small n g.ORDER.fits.fits c.args.rate (omega (arith, c.requires.few)))
