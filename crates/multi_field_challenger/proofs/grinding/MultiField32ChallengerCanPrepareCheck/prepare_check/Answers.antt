use Rattle.std.proofs.Common.{◌%◌, ◌^◌, ◌≤◌, eqb, sym, ap, ◌∙◌, rules, arith}
use Rattle.prepared_grind.proofs.Accepted.{accepts_is}
use Rattle.multi_field_grind.proofs.Tested.{full}
use Rattle.multi_field_challenger.specs.Rules.{after_code, sample_of}
use Rattle.multi_field_challenger.specs.Holds.{held_value, make_meaning}
use Rattle.multi_field_challenger.proofs.Prepared.{drawn_said}
use Rattle.multi_field_challenger.proofs.grinding.MultiField32ChallengerCanPrepareCheck.prepare_check.Goals as goal

pub new-requires : goal.new-requires
new-requires g c =
    let low : 256 ≤ g.row.SAMPLED = omega (arith, g.F.Domain.arithmetic.low) in
    search rules

pub returns : goal.returns
returns g c = λ b q some w lt.
    let s = c.args.self.now in
    let k = make_meaning s in
    let sampled = g.row.SAMPLED in
    let any = full s.packing s.sponge s.pending g.ORDER.fits.fits s.room s.batch w lt in
    ap (λ v. eqb (v % 2 ^ b) 0) (c.new.ensures w lt ∙ drawn_said sampled k (held_value s) w any)
    ∙ sym (accepts_is sampled (after_code sampled k) (sample_of sampled k) (held_value s) b w q some lt)
