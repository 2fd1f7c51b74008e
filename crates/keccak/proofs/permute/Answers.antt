use Rattle.std.proofs.Common.{◌≡◌, [], length, get_or, take, fold, sym, ap, ◌∙◌, rules}
use Rattle.std.proofs.lemmas.List.{take_all}
use Rattle.std.proofs.lemmas.List.Sums.{fold_more}
use Rattle.keccak_spec.specs.Keccak.{round, constants, keccak_f}
use Rattle.keccak_spec.specs.Complemented.{complement, between_rounds}
use Rattle.keccak_spec.proofs.Complementing.{complement_twice}
use Rattle.keccak.proofs.Pairs.{two_rounds}
use Rattle.keccak.proofs.permute.Goals as goal

pub loop-pair-preserved : goal.loop-pair-preserved
loop-pair-preserved c =
    let pairs = c.as_chunks.result.0.now in
    let i = c.loop-pair.pair-index in
    let pair = get_or pairs i [] in
    c.one_round-s-in-loop-pair.ensures ∙ ap (λ s. round s (get_or pair 1 0)) c.one_round-s.ensures ∙ ap (λ s. two_rounds s pair) c.loop-pair.invariant
    ∙ sym (fold_more two_rounds (complement between_rounds c.complement_lanes.new.s) pairs i [] c.loop-pair-test.true)

pub returns : goal.returns
unfolding constants keccak_f
returns c =
    let pairs = c.as_chunks.result.0.now in
    let n : length c.args.a ≡ 25 = search rules in
    let start = ap (complement between_rounds) c.complement_lanes.ensures ∙ complement_twice between_rounds c.args.a n in
    c.complement_lanes-2.ensures ∙ c.loop-pair.invariant ∙ ap (λ s. fold two_rounds s (take c.loop-pair.pair-index pairs)) start
    ∙ ap (fold two_rounds c.args.a) (take_all c.loop-pair.pair-index pairs c.loop-pair-test.false ∙ c.as_chunks.ensures.front)
