use Rattle.std.proofs.Common.{◌<◌, sym, ◌∙◌, arith, below_more}
use Rattle.byte_transcript.specs.Transcript.{candidate_count}
use Rattle.byte_transcript.proofs.Sought.{least_candidate-some, least_candidate-none}
use Rattle.hash_challenger.specs.Holds.{held_value}
use Rattle.hash_challenger.specs.Meaning.{hash_transcript}
use Rattle.hash_challenger.proofs.Transcripts.{passes_is}
use Rattle.hash_challenger.proofs.HashChallengerByteGrindingChallenger.find_witness.Goals as goal

pub returns-then-passes : goal.returns-then-passes
returns-then-passes g c =
    let t = g.H.CryptographicHasher in
    let s = c.args.self.now.hasher in
    let h = held_value c.args.self.now in
    let mask = c.args.mask in
    let w = c.loop-candidate.candidate in
    let inv = c.loop-candidate.invariant in
    let is = c.passes.ensures.value ∙ passes_is (t.digest s) (t.hashing s) h _ mask w inv.0 (omega arith) in
    let lt : w < candidate_count c.args.candidates = omega arith in
    sym (least_candidate-some (hash_transcript (t.digest s) (t.hashing s)) h c.args.candidates mask w c.in_ok-prepared.ensures.0 lt inv.1 (sym is ∙ c.if-passes.true))

pub loop-candidate-preserved : goal.loop-candidate-preserved
loop-candidate-preserved g c =
    let t = g.H.CryptographicHasher in
    let s = c.args.self.now.hasher in
    let h = held_value c.args.self.now in
    let mask = c.args.mask in
    let w = c.loop-candidate.candidate in
    let inv = c.loop-candidate.invariant in
    let is = c.passes.ensures.value ∙ passes_is (t.digest s) (t.hashing s) h _ mask w inv.0 (omega arith) in
    (c.passes.ensures.front ∙ inv.0, below_more _ _ inv.1 (sym is ∙ c.if-passes.false))

pub returns : goal.returns
returns g c =
    let t = g.H.CryptographicHasher in
    let s = c.args.self.now.hasher in
    let h = held_value c.args.self.now in
    sym (least_candidate-none (hash_transcript (t.digest s) (t.hashing s)) h c.args.candidates c.args.mask c.in_ok-prepared.ensures.0 (λ k lt. c.loop-candidate.invariant.1 k (omega arith)))
