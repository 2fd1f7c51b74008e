use Rattle.std.proofs.Common.{◌≡◌, ℕ, ◌+◌, ◌*◌, ◌^◌, ◌<◌, sym, arith}
use Rattle.std.proofs.lemmas.Nat.{mul-add-lt, pow-add, pow_below}
use Rattle.sampling.proofs.uniform.join.Goals as goal

joined : (low high b m p : ℕ) → low < 2 ^ b → high < 2 ^ m → p ≡ 2 ^ b → low + high * p < 2 ^ (b + m)
joined low high b m p l h e = rw (pow-add 2 b m) (rw e (omega (arith, mul-add-lt high (2 ^ b) low (2 ^ m) h l)))

fits : (low high b m p : ℕ) → low < 2 ^ b → high < 2 ^ m → b + m < 64 → p ≡ 2 ^ b → high * p + low < 2 ^ 64
fits low high b m p l h few e =
    let q : 2 ^ b * 2 ^ m < 2 ^ 64 = rw (sym (pow-add 2 b m)) (pow_below (b + m) 64 few) in
    rw e (omega (arith, mul-add-lt high (2 ^ b) low (2 ^ m) h l, q))

pub overflow_mul-result : goal.overflow_mul-result
overflow_mul-result c = omega (arith, fits c.args.low c.args.high c.args.bits c.args.more c.power.result c.requires.low c.requires.high c.requires.few c.power.ensures)

pub overflow_add-result : goal.overflow_add-result
overflow_add-result c = omega (arith, fits c.args.low c.args.high c.args.bits c.args.more c.power.result c.requires.low c.requires.high c.requires.few c.power.ensures)

pub returns-clause-below : goal.returns-clause-below
returns-clause-below c = joined c.args.low c.args.high c.args.bits c.args.more c.power.result c.requires.low c.requires.high c.power.ensures
