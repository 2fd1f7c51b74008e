use Rattle.std.proofs.Common.{◌≡◌, ◌-◌, length, take, get_or, sym, ap, ◌∙◌, arith, length-set}
use Rattle.permutation.specs.Rows.{IsRow}
use Rattle.buffer.specs.Items.{items}
use Rattle.buffer.proofs.Facts.{items-length}
use Rattle.sponge.specs.Sponge.{last_output}
use Rattle.prepared_grind.proofs.Written.{last_of_front}
use Rattle.prepared_grind.proofs.block.PreparedBlock.last_output.Goals as goal

pub returns-clause-value : goal.returns-clause-value
returns-clause-value g c =
    let s = c.args.self.now in
    let image = g.P.CryptographicPermutation.image c.args.permutation.now in
    let set = items c.put.new.self in
    let same : length set ≡ length (items s.row) = ap length c.put.ensures ∙ simp length-set in
    let row : IsRow g.row.ORDER set = record { wide = omega (arith, s.some, s.wide); bounded = omega (arith, items-length s.row, s.row.within); codes = c.put.new.self.codes } in
    let kept = (g.P.CryptographicPermutation.lawful c.args.permutation.now).keeps_length set row in
    c.get.ensures.value ∙ ap (λ xs. get_or xs (s.rate - 1) 0) c.permute.ensures
    ∙ sym (last_of_front s.rate (image set) s.some (omega (arith, s.wide))) ∙ ap (λ xs. last_output (take s.rate (image xs))) c.put.ensures
