use Rattle.std.proofs.Common.{◌≡◌, ◌+◌, ◌*◌, ◌/◌, length, arith}
use Rattle.std.proofs.lemmas.List.{length-set}
use Rattle.std.proofs.lemmas.List.Edits.{fill_by_more}
use Rattle.hasher.proofs.Blocks.{chunk_at}
use Rattle.sha256.specs.Sha256.{word}
use Rattle.sha256.proofs.Steps.{first-words}
use Rattle.sha256.proofs.block_words.Goals as goal

pub loop-t-preserved : goal.loop-t-preserved
loop-t-preserved c =
    let bs = c.args.block.now in
    let t = c.loop-t.t in
    let a = chunk_at 4 (length bs / 4) t 0 (4 * t) bs (omega arith) (omega arith) (omega arith) in
    let b = chunk_at 4 (length bs / 4) t 1 (4 * t + 1) bs (omega arith) (omega arith) (omega arith) in
    let d = chunk_at 4 (length bs / 4) t 2 (4 * t + 2) bs (omega arith) (omega arith) (omega arith) in
    let e = chunk_at 4 (length bs / 4) t 3 (4 * t + 3) bs (omega arith) (omega arith) (omega arith) in
    let n = c.loop-t.invariant.0 in
    let is : c.from_be_bytes.result ≡ word bs t = cc in
    (simp length-set n, rw is (fill_by_more (word bs) c.loop-t.w t 0 (omega arith) c.loop-t.invariant.1))

pub returns : goal.returns
returns c = first-words c.args.block.now c.loop-t.w c.loop-t.t c.loop-t.invariant.0 (omega arith) c.loop-t.invariant.1
