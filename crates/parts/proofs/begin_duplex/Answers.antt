use Rattle.std.proofs.Common.{sym, ap, ◌∙◌}
use Rattle.duplex_challenger.specs.Bytes.{byte_transcript}
use Rattle.duplex_challenger.specs.Holds.{held_value, make, make_meaning}
use Rattle.played.specs.Voices.{duplex_voice, searching, no_search}
use Rattle.parts.specs.Scripts.{duplex_made}
use Rattle.parts.proofs.Telling.{told_is, written_of}
use Rattle.parts.proofs.begin_duplex.Goals as goal

pub returns-in-Bytes : goal.returns-in-Bytes
unfolding duplex_made
returns-in-Bytes g c = written_of _ _ _ _ _ _ _ (told_is (λ k. duplex_voice (searching (byte_transcript k)) k) make_meaning held_value make _ _ _ _ c.make_duplex.ensures ∙ ap (λ d. duplex_made d c.args.asked.now) (sym c.in-Bytes.is)) c.begin_or_refuse.ensures

pub returns-in-BabyBear : goal.returns-in-BabyBear
unfolding duplex_made
returns-in-BabyBear g c = written_of _ _ _ _ _ _ _ (told_is (duplex_voice no_search) make_meaning held_value make _ _ _ _ c.make_duplex-in-BabyBear.ensures ∙ ap (λ d. duplex_made d c.args.asked.now) (sym c.in-BabyBear.is)) c.begin_or_refuse-in-BabyBear.ensures

pub returns-in-KoalaBear : goal.returns-in-KoalaBear
unfolding duplex_made
returns-in-KoalaBear g c = written_of _ _ _ _ _ _ _ (told_is (duplex_voice no_search) make_meaning held_value make _ _ _ _ c.make_duplex-in-KoalaBear.ensures ∙ ap (λ d. duplex_made d c.args.asked.now) (sym c.in-KoalaBear.is)) c.begin_or_refuse-in-KoalaBear.ensures

pub returns-in-Goldilocks : goal.returns-in-Goldilocks
unfolding duplex_made
returns-in-Goldilocks g c = written_of _ _ _ _ _ _ _ (told_is (duplex_voice no_search) make_meaning held_value make _ _ _ _ c.make_duplex-in-Goldilocks.ensures ∙ ap (λ d. duplex_made d c.args.asked.now) (sym c.in-Goldilocks.is)) c.begin_or_refuse-in-Goldilocks.ensures
