use Rattle.std.proofs.Common.{◌≤◌, take, length, ap, ◌∙◌, sym, arith}
use Rattle.buffer.specs.Items.{items}
use Rattle.buffer.proofs.Facts.{items-length, overwritten_cells, overwritten_items, overwritten-length, overwritten-codes}
use Rattle.buffer.proofs.Buffer.overwrite.Goals as goal

pub invariant_of-self : goal.invariant_of-self
invariant_of-self g c =
    let b = c.args.self.now in
    let words = items c.args.words.now in
    let few : length words ≤ c.args.end = omega arith in
    let inside : c.args.end ≤ b.count = omega (arith, items-length b) in
    let cells = overwritten_cells b words c.args.end few inside _ _ _ (sym (items-length c.args.words.now)) (c.copy_from_slice.ensures.after ∙ c.as_slice.ensures) (c.fill.ensures.after (λ y e. e)) in
    record {
      small = b.small;
      sized = ap length cells ∙ overwritten-length b words c.args.end few inside;
      within = b.within;
      codes = rw (cells, overwritten_items b words c.args.end few inside) (overwritten-codes b words c.args.end few inside c.args.words.now.codes);
    }

pub returns : goal.returns
returns g c =
    let b = c.args.self.now in
    let words = items c.args.words.now in
    let few : length words ≤ c.args.end = omega arith in
    let inside : c.args.end ≤ b.count = omega (arith, items-length b) in
    let cells = overwritten_cells b words c.args.end few inside _ _ _ (sym (items-length c.args.words.now)) (c.copy_from_slice.ensures.after ∙ c.as_slice.ensures) (c.fill.ensures.after (λ y e. e)) in
    ap (take b.count) cells ∙ overwritten_items b words c.args.end few inside
