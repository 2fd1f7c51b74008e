use Rattle.std.proofs.Common.{ℕ, ◌-◌, List, length, take, set, ap, ◌∙◌, arith}
use Rattle.buffer.specs.Items.{items}
use Rattle.sponge.specs.Sponge.{SpongeState, row_with_block, last_output}
use Rattle.sponge.specs.SpongeHeld.{make_meaning}
use Rattle.prepared_grind.proofs.Written.{row_with_block-set}
use Rattle.prepared_grind.proofs.block.PreparedBlock.new.Goals as goal

pub returns : goal.returns
returns g c = λ code.
    let s = c.args.sponge.now in
    let k = make_meaning s in
    let words = items c.args.words.now in
    let written = row_with_block k (items s.row) words c.args.tag in
    let out = λ (n : ℕ) (row : List ℕ). last_output (take n (k.image row)) in
    let row = c.from_slice.ensures ∙ c.row_slice.ensures ∙ ap (λ (x : SpongeState). x.row) c.write_block.ensures.state in
    ap (λ n. out n (set (items c.from_slice.result) (c.len.result - 1) code)) c.rate.ensures.value
    ∙ ap (λ (xs : List ℕ). out s.rate (set xs (c.len.result - 1) code)) row
    ∙ ap (λ n. out s.rate (set written (n - 1) code)) c.len.ensures
    ∙ ap (out s.rate) (row_with_block-set k (items s.row) words c.args.tag (length words - 1) code (omega arith))
