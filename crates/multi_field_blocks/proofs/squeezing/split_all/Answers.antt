use Rattle.std.proofs.Common.{◌≡◌, ◌+◌, ◌++◌, length, get_or, drop, sym, ap, ◌∙◌, append_assoc, arith}
use Rattle.std.proofs.Math.Nat.{add-mul}
use Rattle.std.proofs.lemmas.List.{at_drop_more, length-append}
use Rattle.buffer.specs.Items.{items}
use Rattle.packing.specs.Packing.{digits_of_all, digits_of}
use Rattle.multi_field_blocks.proofs.Lists.{digits_of-length}
use Rattle.multi_field_blocks.proofs.squeezing.split_all.Goals as goal

pub loop-word-preserved : goal.loop-word-preserved
loop-word-preserved g c =
    let ws = items c.args.outputs.now in
    let k = c.args.digits in
    let i = c.loop-word.word-index in
    let b = g.row.SAMPLED in
    let q = items c.loop-word.squeeze in
    let same = c.as_slice-word-items.ensures in
    let d = digits_of b k (get_or ws i 0) in
    let pushed : items c.push_digits.new.scalars ≡ q ++ d = c.push_digits.ensures ∙ ap (λ xs. q ++ digits_of b k (get_or xs i 0)) same in
    let step : digits_of_all b k (drop i ws) ≡ d ++ digits_of_all b k (drop (i + 1) ws) = at_drop_more (digits_of_all b k) ws i 0 (omega (arith, c.loop-word-test.true, ap length same)) in (
      ap length pushed ∙ length-append q d ∙ omega (arith, digits_of-length b k (get_or ws i 0), c.loop-word.invariant.0, add-mul i 1 k),
      ap (λ xs. xs ++ digits_of_all b k (drop (i + 1) ws)) pushed ∙ append_assoc q d (digits_of_all b k (drop (i + 1) ws)) ∙ ap (λ ys. q ++ ys) (sym step) ∙ c.loop-word.invariant.1,
    )
