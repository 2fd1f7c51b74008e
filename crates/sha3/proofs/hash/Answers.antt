use Rattle.std.proofs.Common.{[], ◌∷◌, replicate, fold, sym, ap, ◌∙◌}
use Rattle.sha3.specs.Sha3.{sha3_256, state_after_block, digest_of_state}
use Rattle.hasher.proofs.Blocks.{folded-++}
use Rattle.sha3.proofs.Last.{blocks-padded_message}
use Rattle.sha3.proofs.hash.Goals as goal

pub returns : goal.returns
unfolding sha3_256
returns c =
    let m = c.args.input.now in
    let whole = c.as_chunks.result.0.now in
    let last = c.last_block.result in
    c.squeeze.ensures
    ∙ ap digest_of_state
    (c.absorb.ensures ∙ ap (λ s. state_after_block s last) c.absorb-s.ensures
    ∙ sym (folded-++ state_after_block (replicate 25 0) whole (last ∷ []))
    ∙ ap (fold state_after_block (replicate 25 0))
    (blocks-padded_message m c.as_chunks.result.1.now last whole c.as_chunks.ensures.back c.as_chunks.ensures.back_len
    c.last_block.ensures c.as_chunks.ensures.front))
