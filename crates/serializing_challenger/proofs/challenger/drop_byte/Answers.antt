use Rattle.serializing_challenger.proofs.challenger.drop_byte.Goals as goal

pub returns-clause-roomy : goal.returns-clause-roomy
returns-clause-roomy g c =
    let t = c.args.transcript.now in
    let k = g.T.Holding.make t in
    let h = g.T.Holding.held_value t in
    (g.T.ByteTranscript.meaning k).laws.room_after_draw h (g.met.T.ByteTranscript.meaning_covers k h (g.T.Holding.holds t))
