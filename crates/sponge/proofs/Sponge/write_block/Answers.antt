use Rattle.std.proofs.Common.{List, set, ap, ◌∙◌}
use Rattle.buffer.specs.Items.{items}
use Rattle.sponge.specs.Sponge.{sponge_state}
use Rattle.sponge.specs.SpongeHeld.{make_meaning}
use Rattle.sponge.specs.AbsorbingProofs.{row_with_block_is}
use Rattle.sponge.proofs.Turning.{rate_inside}
use Rattle.sponge.proofs.Sponge.write_block.Goals as goal

pub returns-clause-state : goal.returns-clause-state
returns-clause-state g c =
    let s = c.args.self.now in
    let k = make_meaning s in
    let tagged = c.add-tagged.ensures ∙ ap (λ x. k.arithmetic.add x c.args.tag) c.get.ensures.value in
    let row = c.put.ensures ∙ ap (λ (xs : List _). set xs s.rate c.add-tagged.result) c.overwrite.ensures
    ∙ row_with_block_is k (items s.row) (items c.args.words.now) c.args.tag c.add-tagged.result c.requires.room (rate_inside s) tagged in
    ap (λ (row : List _). sponge_state row (items s.outputs)) row
