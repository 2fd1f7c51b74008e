use Rattle.std.proofs.Common.{◌≡◌, ◌*◌, ◌≤◌, length, sym, ap, ◌∙◌, arith}
use Rattle.std.proofs.lemmas.Nat.{mul-le}
use Rattle.sponge.proofs.Turning.{rate_small}
use Rattle.packing.proofs.Facts.{some, product_small}
use Rattle.multi_field_challenger.proofs.MultiField32Challenger.new.Goals as goal

pub overflow_mul-batch : goal.overflow_mul-batch
overflow_mul-batch g c =
    let s = c.in_ok-sponge.sponge in
    let n = c.new-packing.result in
    let r : n.limbs * s.rate ≡ c.limbs.result * c.args.rate = ap (λ m. n.limbs * m) c.in_ok-sponge.ensures.1.rate_is ∙ ap (λ m. m * c.args.rate) (sym c.limbs.ensures) in
    omega (arith, r, product_small n g.ORDER.fits.fits s.rate (omega (arith, rate_small s)))

pub invariant_of-result : goal.invariant_of-result
invariant_of-result g c =
    let s = c.in_ok-sponge.sponge in
    let n = c.new-packing.result in
    let r : n.limbs * s.rate ≡ c.limbs.result * c.args.rate = ap (λ m. n.limbs * m) c.in_ok-sponge.ensures.1.rate_is ∙ ap (λ m. m * c.args.rate) (sym c.limbs.ensures) in
    let one : 1 * 1 ≤ n.limbs * s.rate = mul-le 1 1 n.limbs s.rate (some n g.ORDER.fits.fits) s.some in
    record { batch = omega (arith, r, c.if-batch-gt-LONGEST_BATCH.false); room = omega (arith, one, ap length c.zeros.ensures) }
