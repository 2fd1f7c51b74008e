use Rattle.std.proofs.Common.{◌≡◌, refl, ◌∙◌}
use Rattle.sha256.specs.Sha256.{K, ending, padded_message, words, schedule, round, rounds, next_hash_value, bytes, sha256}
use Rattle.sha256.specs.Example.{abc, abc_digest}
use Rattle.sha256.proofs.hash_abc.Goals as goal

-- the example, by computation
computed : sha256 abc ≡ abc_digest
unfolding K ending padded_message words schedule round rounds next_hash_value bytes sha256
computed = refl

pub returns : goal.returns
returns c = record { definition = c.hash.ensures; example = c.hash.ensures ∙ computed }
