use Rattle.std.proofs.Common.{sym, ap, ◌∙◌}
use Rattle.multi_field_challenger.specs.Holds.{held_value, make, make_meaning}
use Rattle.played.specs.Voices.{multi_voice}
use Rattle.parts.specs.Scripts.{multi_made_over}
use Rattle.parts.proofs.Telling.{told_is, written_of}
use Rattle.parts.proofs.begin_multi_over.Goals as goal

pub returns-in-Bytes : goal.returns-in-Bytes
unfolding multi_made_over
returns-in-Bytes g c = written_of _ _ _ _ _ _ _ (told_is (multi_voice g.row.SAMPLED) make_meaning held_value make _ _ _ _ c.make_multi.ensures ∙ ap (λ d. multi_made_over g.row.SAMPLED d c.args.asked.now) (sym c.in-Bytes.is)) c.begin_or_refuse.ensures

pub returns-in-BabyBear : goal.returns-in-BabyBear
unfolding multi_made_over
returns-in-BabyBear g c = written_of _ _ _ _ _ _ _ (told_is (multi_voice g.row.SAMPLED) make_meaning held_value make _ _ _ _ c.make_multi-in-BabyBear.ensures ∙ ap (λ d. multi_made_over g.row.SAMPLED d c.args.asked.now) (sym c.in-BabyBear.is)) c.begin_or_refuse-in-BabyBear.ensures

pub returns-in-KoalaBear : goal.returns-in-KoalaBear
unfolding multi_made_over
returns-in-KoalaBear g c = written_of _ _ _ _ _ _ _ (told_is (multi_voice g.row.SAMPLED) make_meaning held_value make _ _ _ _ c.make_multi-in-KoalaBear.ensures ∙ ap (λ d. multi_made_over g.row.SAMPLED d c.args.asked.now) (sym c.in-KoalaBear.is)) c.begin_or_refuse-in-KoalaBear.ensures

pub returns-in-Goldilocks : goal.returns-in-Goldilocks
unfolding multi_made_over
returns-in-Goldilocks g c = written_of _ _ _ _ _ _ _ (told_is (multi_voice g.row.SAMPLED) make_meaning held_value make _ _ _ _ c.make_multi-in-Goldilocks.ensures ∙ ap (λ d. multi_made_over g.row.SAMPLED d c.args.asked.now) (sym c.in-Goldilocks.is)) c.begin_or_refuse-in-Goldilocks.ensures
