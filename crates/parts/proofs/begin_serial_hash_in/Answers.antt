use Rattle.std.proofs.Common.{ap, ◌∙◌}
use Rattle.hashers.specs.Choice.{digest_of, hashing_of}
use Rattle.hash_challenger.specs.Holds.{held_value, make}
use Rattle.hash_challenger.specs.Meaning.{hash_transcript}
use Rattle.played.specs.Voices.{hash_voice, serial_voice}
use Rattle.parts.specs.Scripts.{serial_hash_made_over}
use Rattle.parts.proofs.Telling.{told_is, written_of}
use Rattle.parts.proofs.begin_serial_hash_in.Goals as goal

pub returns : goal.returns
unfolding serial_hash_made_over
returns g c =
    written_of _ _ _ _ _ _ _
    (told_is (λ h. serial_voice g.row.ORDER (hash_transcript (digest_of h) (hashing_of h)) (hash_voice (digest_of h) (hashing_of h))) (λ s. make s.inner) (λ s. held_value s.inner) (λ s. make s.inner) _ _ _ _ c.make_serial_hash.ensures
    ∙ ap (λ bytes. serial_hash_made_over g.row.ORDER (c.args.asked.now.hasher, bytes)) c.as_slice-initial.ensures.value)
    c.begin_or_refuse.ensures
