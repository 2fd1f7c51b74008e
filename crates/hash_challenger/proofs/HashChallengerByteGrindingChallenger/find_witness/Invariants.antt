use Rattle.std.proofs.Common.{◌≡◌}
use Rattle.byte_transcript.proofs.Sought.{NonePass}
use Rattle.hash_state.specs.Holds.{front}
use Rattle.hash_challenger.specs.Holds.{held_value}
use Rattle.hash_challenger.specs.Meaning.{hash_transcript}
use Rattle.hash_challenger.proofs.HashChallengerByteGrindingChallenger.find_witness.Given as goal

abbrev pub invariant-loop-candidate : goal.invariant-loop-candidate
invariant-loop-candidate g l =
    let t = g.H.CryptographicHasher in
    let s = l.initial.self.hasher in
    let m = hash_transcript (t.digest s) (t.hashing s) in
    let h = held_value l.initial.self in
    (front l.prepared ≡ h.input) × NonePass m h l.candidates l.mask l.candidate
