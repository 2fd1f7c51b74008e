use Rattle.std.proofs.Common.{◌+◌, ◌-◌, ◌*◌, ◌%◌, ◌^◌, ◌<◌, ◌≤◌, [], ◌∷◌, ◌++◌, length, get_or, ap, ◌∙◌, mod-lt, rules, arith, lit<}
use Rattle.std.proofs.lemmas.List.{length-append}
use Rattle.buffer.specs.Items.{items}
use Rattle.sponge.specs.Sponge.{block_turn, last_output}
use Rattle.sponge.specs.SpongeHeld.{held_value, make_meaning}
use Rattle.sponge.proofs.Turning.{rate_small}
use Rattle.code_bits.specs.CodeBits.{code_bits}
use Rattle.packing.proofs.Facts.{some, words-few}
use Rattle.multi_field_blocks.proofs.Lists.{digits-some}
use Rattle.prepared_grind.specs.Tests.{with_last}
use Rattle.prepared_grind.specs.Blocks.{last_output_with}
use Rattle.multi_field_grind.proofs.Tested.{word-code, drawn_is}
use Rattle.multi_field_grind.proofs.PreparedScalar.new.Goals as goal

pub new-requires : goal.new-requires
new-requires g c =
    let n = c.args.packing.now in
    let s = c.args.sponge.now in
    let xs = items c.args.pending.now in
    let words = items c.words_before-words.result in
    let e = c.words_before-words.ensures.value in
    let fits : length words ≤ s.rate = words-few n g.ORDER.fits.fits s.rate (xs ++ (0 ∷ [])) words e (omega (arith, c.requires.room, length-append xs (0 ∷ []))) in
    let tag : c.len.result + 1 < g.row.ORDER = omega (arith, c.len.ensures, c.requires.room, c.requires.batch, fits, rate_small s, g.D.Domain.arithmetic.low) in
    search rules

pub nonzero_rem-len : goal.nonzero_rem-len
nonzero_rem-len g c = omega (arith, c.limbs.ensures, some c.args.packing.now g.ORDER.fits.fits)

pub weight-requires : goal.weight-requires
weight-requires g c =
    let k = some c.args.packing.now g.ORDER.fits.fits in
    let any : 0 < c.limbs.result = omega (arith, c.limbs.ensures, k) in
    (lit< tt, omega (arith, c.limbs.ensures, mod-lt c.len-3.result any))

pub invariant_of-result : goal.invariant_of-result
invariant_of-result g c =
    let n = c.args.packing.now in
    let p = c.args.pending.now in
    let rest = c.get.ensures.value ∙ ap (λ j. get_or (items c.words_before-words.result) (j - 1) 0) c.len-2.ensures ∙ ap last_output c.words_before-words.ensures.value in
    let weight = c.weight.ensures ∙ ap (λ j. 2 ^ (code_bits g.row.SAMPLED * (j % c.limbs.result))) c.len-3.ensures
    ∙ ap (λ j. 2 ^ (code_bits g.row.SAMPLED * (length (items p) % j))) (c.limbs.ensures ∙ n.sized) in
    record {
      low = n.low;
      codes = word-code n c.args.sponge.now p g.ORDER.fits.fits c.requires.room c.requires.batch c.get.result c.weight.result rest weight;
      some = omega (arith, c.digits.ensures, n.split, digits-some g.row.SAMPLED g.row.ORDER c.requires.low n.less g.ORDER.fits.fits);
    }

pub returns : goal.returns
returns g c =
    let n = c.args.packing.now in
    let s = c.args.sponge.now in
    let p = c.args.pending.now in
    let e = c.words_before-words.ensures.value in
    let rest = c.get.ensures.value ∙ ap (λ j. get_or (items c.words_before-words.result) (j - 1) 0) c.len-2.ensures ∙ ap last_output e in
    let weight = c.weight.ensures ∙ ap (λ j. 2 ^ (code_bits g.row.SAMPLED * (j % c.limbs.result))) c.len-3.ensures
    ∙ ap (λ j. 2 ^ (code_bits g.row.SAMPLED * (length (items p) % j))) (c.limbs.ensures ∙ n.sized) in
    drawn_is n s p g.ORDER.fits.fits c.requires.room c.requires.batch c.get.result c.weight.result rest weight
    (c.len.result + 1) c.digits.result (last_output_with (make_meaning s).image c.new.result) c.requires.low (ap (λ j. j + 1) c.len.ensures) (c.digits.ensures ∙ n.split)
    (λ code. c.new.ensures code ∙ ap (λ ws. last_output (block_turn (make_meaning s) (held_value s).row (with_last ws code) (c.len.result + 1)).outputs) e)
