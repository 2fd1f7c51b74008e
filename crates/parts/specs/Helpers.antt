-- The numbers that a line asks for, of a pair of domains.
use Rattle.std.specs.Prelude.{ℕ, Ok, Err, Result, nat_le, if◌then◌else◌}
use Rattle.refusal.specs.declared.Refusal.{Refusal}
use Rattle.refusal.specs.declared.Refusal.TheVariants.{SampledOrder}
use Rattle.code_bits.specs.CodeBits.{code_bits}
use Rattle.packing.specs.Powers.{limbs, digits}
use Rattle.script.specs.declared.DomainName.{DomainName}
use Rattle.script.specs.declared.DomainName.TheVariants.{Bytes, BabyBear, KoalaBear, Goldilocks}

abbrev pub order_of : DomainName → ℕ
order_of Bytes = 256
order_of BabyBear = 2013265921
order_of KoalaBear = 2130706433
order_of Goldilocks = 18446744069414584321

-- the radix bits, limbs and k; the first question of the sampled order is asked
abbrev pub pair_numbers : DomainName → DomainName → Result (ℕ × ℕ × ℕ) Refusal
pair_numbers sampled domain =
    if nat_le (order_of sampled) 4294967296 then Ok (code_bits (order_of sampled), limbs (order_of sampled) (order_of domain), digits (order_of sampled) (order_of domain)) else Err SampledOrder
