use Rattle.std.proofs.Common.{◌+◌, Ok, sym, refl, ap, ◌∙◌, arith}
use Rattle.challenger_traits.specs.Meaning.{reply}
use Rattle.challenger_traits.specs.GrindingProofs.{ground-passes}
use Rattle.challenger_traits.proofs.Checks.{does_by, ground_by}
use Rattle.serializing_challenger.specs.Rules.{means}
use Rattle.serializing_challenger.proofs.Search.{searched, unfound, sought_there}
use Rattle.serializing_challenger.proofs.grinding.SerializingChallenger32GrindingChallenger.grind.Goals as goal

pub returns-in_default : goal.returns-in_default
returns-in_default g c =
    let M = g.T.ByteTranscript.meaning in
    let t = c.args.self.now.inner in
    let k = g.T.Holding.make t in
    let h = g.T.Holding.held_value t in
    let b = c.args.bits in
    let n = c.args.budget in
    let dropped = c.drop_byte.ensures in
    let there = sought_there M k (g.T.Holding.make c.drop_byte.new.transcript) h (g.T.Holding.held_value c.drop_byte.new.transcript) b n c.power.result dropped.kept dropped.left c.power.ensures in
    let e = unfound g.row.ORDER (M k) h b (sym c.if-not-bits_fit.ensures) (omega arith) dropped.roomy n c.if-budget.false c.args.self.now.code.small
    (sym there ∙ sym c.find_witness.ensures ∙ c.in_default.is) in
    record { does = does_by e refl; passes = tt; least = ground_by (means g.row.ORDER (M k)) h b n e }

pub returns : goal.returns
returns g c =
    let M = g.T.ByteTranscript.meaning in
    let t = c.args.self.now.inner in
    let k = g.T.Holding.make t in
    let h = g.T.Holding.held_value t in
    let b = c.args.bits in
    let n = c.args.budget in
    let dropped = c.drop_byte.ensures in
    let checked = c.check.ensures.does in
    let there = sought_there M k (g.T.Holding.make c.drop_byte.new.transcript) h (g.T.Holding.held_value c.drop_byte.new.transcript) b n c.power.result dropped.kept dropped.left c.power.ensures in
    let is = searched g.row.ORDER (M k) h b (sym c.if-not-bits_fit.ensures) (omega arith) dropped.roomy n c.if-budget.false c.args.self.now.code.small
    c.in-Some.witness (sym there ∙ sym c.find_witness.ensures ∙ c.in-Some.is) in
    let e = is.1 ∙ ap (reply (Ok (c.in-Some.witness, c.in-Some.witness + 1))) (sym checked.state) in
    let m = means g.row.ORDER (M k) in
    record { does = does_by e checked.same_make; passes = ground-passes m h b n e; least = ground_by m h b n e }
