use Rattle.std.proofs.Common.{ap, ◌∙◌}
use Rattle.hashers.specs.Choice.{digest_of, hashing_of}
use Rattle.hash_challenger.specs.Holds.{held_value, make}
use Rattle.played.specs.Voices.{hash_voice}
use Rattle.parts.specs.Scripts.{hash_made}
use Rattle.parts.proofs.Telling.{told_is, written_of}
use Rattle.parts.proofs.begin_hash.Goals as goal

pub returns : goal.returns
unfolding hash_made
returns g c =
    written_of _ _ _ _ _ _ _
    (told_is (λ h. hash_voice (digest_of h) (hashing_of h)) make held_value make _ _ _ _ c.make_hash.ensures ∙ ap (λ bytes. hash_made (c.args.asked.now.hasher, bytes)) c.as_slice-initial.ensures.value)
    c.begin_or_refuse.ensures
