use Rattle.std.proofs.Common.{◌≡◌, ◌+◌, ◌-◌, ◌/◌, ◌%◌, ◌≤◌, length, take, fold, sym, ap, ◌∙◌, arith}
use Rattle.sha256.specs.Sha256.{H0, bytes, next_hash_value, sha256}
use Rattle.hasher.proofs.Blocks.{folded-++}
use Rattle.sha256.proofs.Padding.{blocks-padded_message}
use Rattle.sha256.proofs.hash.Goals as goal
use Rattle.sha256.proofs.hash.Goals.{then-rest-lt56, else-rest-lt56}

pub returns : goal.returns
unfolding sha256
returns c =
    let m = c.args.input.now in
    let rest = c.as_chunks.result.1.now in
    let end = c.if-rest-lt56.end in
    let made = c.last_blocks-last.result in
    let whole = c.as_chunks.result.0.now in
    let tail = c.as_chunks-2.result.0.now in
    let back : length rest ≡ length m % 64 = c.as_chunks.ensures.back_len in
    let room : length rest + 9 ≤ end =
    elim c.if-rest-lt56.branch [ then-rest-lt56 w ↦ omega (arith, w.end-is) | else-rest-lt56 w ↦ omega (arith, w.end-is) ] in
    let z : end - 9 - length rest ≡ (119 - length m % 64) % 64 =
    elim c.if-rest-lt56.branch [ then-rest-lt56 w ↦ omega (arith, w.end-is) | else-rest-lt56 w ↦ omega (arith, w.end-is) ] in
    let count : (length m + (9 + (119 - length m % 64) % 64)) / 64 ≡ length m / 64 + end / 64 =
    elim c.if-rest-lt56.branch [ then-rest-lt56 w ↦ omega (arith, w.end-is) | else-rest-lt56 w ↦ omega (arith, w.end-is) ] in
    let to : end - 0 ≡ end = omega arith in
    c.digest_bytes.ensures
    ∙ ap bytes
    (c.absorb-2.ensures ∙ ap (λ h. fold next_hash_value h tail) c.absorb.ensures ∙ sym (folded-++ next_hash_value H0 whole tail)
    ∙ ap (fold next_hash_value H0)
    (blocks-padded_message m rest (take (end - 0) made) whole tail end c.as_chunks.ensures.back
    (ap (λ i. take i made) to ∙ c.last_blocks-last.ensures) c.as_chunks.ensures.front c.as_chunks-2.ensures.front
    room z count))
