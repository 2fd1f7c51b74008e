use Rattle.std.proofs.Common.{ℕ, suc, ◌*◌, ◌^◌, ◌<◌, ◌≤◌, inl, inr, mul_comm, pow-suc, arith}
use Rattle.std.proofs.Math.Nat.{pow-le-pow_right}
use Rattle.std.proofs.lemmas.Bool.{cases_lt}
use Rattle.packing.specs.Powers.{IsGreatestPower}
use Rattle.packing.specs.PowersProofs.{greatest_is}
use Rattle.packing.proofs.powers.greatest_power.Goals as goal

-- a power that is followed by one above the order is the greatest
greatest_by : (base order n : ℕ) → 2 ≤ base → base ^ n ≤ order → order < base * base ^ n → IsGreatestPower base order n
greatest_by base order n two fits over = record {
  fits = fits;
  greatest = λ m h. elim (cases_lt n m) [
    | inl l ↦ (let g : base ^ suc n ≤ base ^ m = pow-le-pow_right {n = base} (omega arith) l in absurd (omega (arith, g, pow-suc base n, mul_comm base (base ^ n))))
    | inr g ↦ g
  ];
}

pub returns : goal.returns
returns c =
    let gp = greatest_by c.args.base c.args.order c.ilog.result c.requires.base (omega (arith, c.ilog.ensures.power_le)) (omega (arith, c.ilog.ensures.next_power_gt)) in
    record { value = greatest_is c.args.base c.args.order c.ilog.result c.requires.base c.requires.some (omega arith) gp; greatest = gp }
