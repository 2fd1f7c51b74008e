-- What the usual challengers stand on.
use Rattle.byte_transcript.specs.Transcript.{Transcript}
use Rattle.hashers.specs.declared.Hasher.{Hasher}
use Rattle.hashers.specs.Choice.{digest_of, hashing_of}
use Rattle.hash_state.specs.declared.held.HashHeld.{HashHeld}
use Rattle.hash_challenger.specs.Meaning.{hash_transcript}

-- the byte transcript of a hash challenger over this hasher
abbrev pub hash_bytes : Hasher → Transcript HashHeld
hash_bytes hasher = hash_transcript (digest_of hasher) (hashing_of hasher)
