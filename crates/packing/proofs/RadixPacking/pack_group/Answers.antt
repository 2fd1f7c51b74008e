use Rattle.std.proofs.Common.{length, sym, ap, ◌∙◌, arith}
use Rattle.std.proofs.lemmas.List.{length_push}
use Rattle.std.proofs.lemmas.Iterator.Adapters.{YieldsList-from_rev_slice}
use Rattle.std.proofs.lemmas.Iterator.Consumers.{YieldsList-turn}
use Rattle.packing.proofs.Groups.{end_word, end_none, end_more}
use Rattle.packing.proofs.Facts.{word, next_code}
use Rattle.packing.proofs.RadixPacking.pack_group.Goals as goal

pub loop-scalar-init : goal.loop-scalar-init
loop-scalar-init g c = end_none g.row.SAMPLED c.args.group.now

pub overflow_mul-word : goal.overflow_mul-word
overflow_mul-word g c =
    let t = YieldsList-turn (YieldsList-from_rev_slice c.args.group.now cc) c.loop-scalar.yielded _ c.loop-scalar.yielded_by _ _ c.in-Some.scalar c.in-Some.is c.next.ensures.steps in
    let code = next_code c.args.self.now g.ORDER.fits.fits c.args.group.now c.requires.codes c.requires.few _ c.in-Some.scalar.now c.loop-scalar.word t c.loop-scalar.invariant in
    omega (arith, code, g.ORDER.fits)

pub overflow_add-word : goal.overflow_add-word
overflow_add-word g c =
    let t = YieldsList-turn (YieldsList-from_rev_slice c.args.group.now cc) c.loop-scalar.yielded _ c.loop-scalar.yielded_by _ _ c.in-Some.scalar c.in-Some.is c.next.ensures.steps in
    let code = next_code c.args.self.now g.ORDER.fits.fits c.args.group.now c.requires.codes c.requires.few _ c.in-Some.scalar.now c.loop-scalar.word t c.loop-scalar.invariant in
    omega (arith, code, g.ORDER.fits)

pub loop-scalar-preserved : goal.loop-scalar-preserved
loop-scalar-preserved g c =
    let n = c.args.self.now in
    let xs = c.loop-scalar.yielded in
    let t = YieldsList-turn (YieldsList-from_rev_slice c.args.group.now cc) xs _ c.loop-scalar.yielded_by _ _ c.in-Some.scalar c.in-Some.is c.next.ensures.steps in
    end_more g.row.SAMPLED c.args.group.now n.radix (length xs) c.in-Some.scalar.now c.loop-scalar.word n.radixed t c.loop-scalar.invariant ∙ ap (end_word g.row.SAMPLED c.args.group.now) (sym (length_push xs c.in-Some.scalar))

pub returns-clause-code : goal.returns-clause-code
returns-clause-code g c = omega (arith, word c.args.self.now g.ORDER.fits.fits c.args.group.now c.requires.codes c.requires.few (length c.loop-scalar.yielded))
