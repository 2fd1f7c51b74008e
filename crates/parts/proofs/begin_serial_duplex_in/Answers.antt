use Rattle.domain.specs.Modular.{bytes}
use Rattle.duplex_challenger.specs.Bytes.{byte_transcript}
use Rattle.duplex_challenger.specs.Holds.{held_value, make, make_meaning}
use Rattle.duplex_challenger.specs.Rules.{fresh_value}
use Rattle.played.specs.Voices.{duplex_voice, searching, serial_voice}
use Rattle.agreement.specs.Ends.{or_above}
use Rattle.serializing_challenger.specs.Rules.{order_no}
use Rattle.played.specs.Makes.{asked_sponge, duplex_no}
use Rattle.parts.specs.Scripts.{serial_duplex_made_over}
use Rattle.parts.proofs.Telling.{told_is, written_of}
use Rattle.parts.proofs.begin_serial_duplex_in.Goals as goal

pub returns : goal.returns
unfolding serial_duplex_made_over
returns g c =
    let k = asked_sponge bytes c.args.asked.now in
    written_of _ _ _ _ _ _ (serial_duplex_made_over g.row.ORDER c.args.asked.now)
    (told_is (λ k. serial_voice g.row.ORDER (byte_transcript k) (duplex_voice (searching (byte_transcript k)) k)) (λ s. make_meaning s.inner) (λ s. held_value s.inner) (λ s. make s.inner) (or_above (duplex_no c.args.asked.now) (order_no g.row.ORDER)) k (fresh_value k) c.make_serial_duplex.result c.make_serial_duplex.ensures)
    c.begin_or_refuse.ensures
