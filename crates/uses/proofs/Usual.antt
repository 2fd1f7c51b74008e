-- No question of making the multi-field challenger of BabyBear over Goldilocks, with 8 cells and a rate of 4, is failed.
use Rattle.std.specs.Prelude.{◌≡◌, None, refl}
use Rattle.challengers.specs.Grinding.{first}
use Rattle.challengers.specs.CodeBits.{code_bits}
use Rattle.challengers.specs.Powers.{greatest_power, limbs}
use Rattle.challengers.specs.Orders.{BABY_BEAR_ORDER, GOLDILOCKS_ORDER}
use Rattle.challengers.specs.MultiFieldHolds.{first_no}

pub no_question_failed : first_no BABY_BEAR_ORDER GOLDILOCKS_ORDER 8 4 ≡ None
unfolding first code_bits greatest_power limbs
no_question_failed = refl
