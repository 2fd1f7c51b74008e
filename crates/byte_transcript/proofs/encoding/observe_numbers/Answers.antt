use Rattle.std.proofs.Common.{◌/◌, ◌<◌, ◌≤◌, length, Ok, sym, refl, ap, ◌∙◌, subst}
use Rattle.std.proofs.lemmas.Bool.{cond-true, cond-false}
use Rattle.challenger_traits.specs.Meaning.{reply, observe_of}
use Rattle.challenger_traits.proofs.Checks.{does_by}
use Rattle.byte_transcript.proofs.Fitting.{all_fit, too_many}
use Rattle.byte_transcript.proofs.encoding.observe_numbers.Goals as goal

pub returns-then-numbers-room : goal.returns-then-numbers-room
returns-then-numbers-room g c =
    let t = c.args.transcript.now in
    let m = g.T.ByteTranscript.meaning (g.T.Holding.make t) in
    let h = g.T.Holding.held_value t in
    let xs = c.args.numbers.now in
    let lt = subst (λ r. r / c.args.size < length xs) c.room.ensures c.if-numbers-room.true in
    let no = too_many c.args.size c.requires.bytes m h xs c.requires.some lt in
    record { does = does_by (ap (λ r. observe_of r h) (cond-false _ _ _ no)) refl }

pub put_numbers-requires : goal.put_numbers-requires
put_numbers-requires g c =
    let t = c.args.transcript.now in
    let m = g.T.ByteTranscript.meaning (g.T.Holding.make t) in
    let h = g.T.Holding.held_value t in
    let xs = c.args.numbers.now in
    let le = subst (λ r. length xs ≤ r / c.args.size) c.room.ensures c.if-numbers-room.false in
    record { bytes = c.requires.bytes; room = all_fit c.args.size c.requires.bytes m h xs c.requires.some le }

pub returns : goal.returns
returns g c =
    let t = c.args.transcript.now in
    let m = g.T.ByteTranscript.meaning (g.T.Holding.make t) in
    let h = g.T.Holding.held_value t in
    let xs = c.args.numbers.now in
    let le = subst (λ r. length xs ≤ r / c.args.size) c.room.ensures c.if-numbers-room.false in
    let ok = all_fit c.args.size c.requires.bytes m h xs c.requires.some le in
    record { does = does_by (ap (λ r. observe_of r h) (cond-true _ _ _ ok) ∙ ap (reply (Ok tt)) (sym c.put_numbers.ensures.left)) c.put_numbers.ensures.kept }
