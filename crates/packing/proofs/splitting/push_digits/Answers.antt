use Rattle.std.proofs.Common.{◌≡◌, ℕ, suc, ◌+◌, ◌-◌, ◌/◌, ◌%◌, ◌<◌, List, [], ◌∷◌, ◌++◌, length, sym, ap, ◌∙◌, append_assoc, arith}
use Rattle.std.proofs.lemmas.List.{length_push}
use Rattle.buffer.specs.Items.{items}
use Rattle.packing.specs.Packing.{digits_of}
use Rattle.packing.proofs.splitting.push_digits.Goals as goal

-- one digit more
digit_more : (base count i w : ℕ) (xs ys : List ℕ) → i < count → ys ≡ xs ++ (w % base ∷ []) → ys ++ digits_of base (count - (i + 1)) (w / base) ≡ xs ++ digits_of base (count - i) w
digit_more base count i w xs ys h e =
    let n : count - i ≡ suc (count - (i + 1)) = omega arith in
    ap (λ zs. zs ++ digits_of base (count - (i + 1)) (w / base)) e ∙ append_assoc xs (w % base ∷ []) (digits_of base (count - (i + 1)) (w / base)) ∙ ap (λ m. xs ++ digits_of base m w) (sym n)

pub loop-preserved : goal.loop-preserved
loop-preserved g c = (
  ap length c.push.ensures ∙ length_push (items c.loop.scalars) (c.loop.rest % g.row.SAMPLED) ∙ omega (arith, c.loop.invariant.0),
  digit_more g.row.SAMPLED c.args.count c.loop.counter c.loop.rest (items c.loop.scalars) _ c.loop-test.true c.push.ensures ∙ c.loop.invariant.1,
)
