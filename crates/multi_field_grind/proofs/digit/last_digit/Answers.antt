use Rattle.std.proofs.Common.{◌≡◌, ◌+◌, sym, ap, ◌∙◌, arith}
use Rattle.sponge.specs.Sponge.{last_output}
use Rattle.packing.specs.Packing.{digits_of}
use Rattle.multi_field_grind.proofs.Digits.{last_divided}
use Rattle.multi_field_grind.proofs.digit.last_digit.Goals as goal

pub loop-preserved : goal.loop-preserved
loop-preserved g c = λ m e.
    let there : m + 1 + c.loop.counter ≡ c.args.digits = omega (arith, e) in
    let more : m + 2 ≡ m + 1 + 1 = omega arith in
    sym (last_divided g.row.SAMPLED m c.loop.rest) ∙ ap (λ k. last_output (digits_of g.row.SAMPLED k c.loop.rest)) more ∙ c.loop.invariant (m + 1) there

pub returns : goal.returns
returns g c =
    let one : 1 ≡ 0 + 1 = omega arith in
    ap (λ k. last_output (digits_of g.row.SAMPLED k c.loop.rest)) one ∙ c.loop.invariant 0 (omega arith)
