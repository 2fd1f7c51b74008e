use Rattle.std.proofs.Common.{◌≡◌, ℕ, suc, ◌-◌, ◌<◌, List, ◌∷◌, ◌++◌, length, drop, set, replicate, refl, ap, ◌∙◌, zero-add, arith}
use Rattle.std.proofs.Math.Seq.{paste}
use Rattle.std.proofs.lemmas.List.{drop-replicate, set_at}
use Rattle.std.proofs.lemmas.List.Edits.{paste_all}
use Rattle.hasher.proofs.marked_block.Goals as goal

begun : (size mark : ℕ) (rest mid : List ℕ) → length rest < size → mid ≡ paste (replicate size 0) 0 rest (length rest)
    → set mid (length rest) mark ≡ rest ++ mark ∷ replicate (size - 1 - length rest) 0
begun size mark rest mid h p =
    let n = length rest in
    let one : size - n ≡ suc (size - 1 - n) = omega arith in
    ap (λ l. set l n mark)
    (p ∙ paste_all (replicate size 0) 0 rest n refl
    ∙ ap (λ ys. rest ++ ys) (ap (λ i. drop i (replicate size 0)) (zero-add n) ∙ drop-replicate n size 0 ∙ ap (λ i. replicate i 0) one))
    ∙ set_at rest 0 (replicate (size - 1 - n) 0) mark n refl

pub returns : goal.returns
returns g c = begun g.row.N c.args.mark c.args.rest.now c.put.new.to (omega arith) (c.put.ensures.written (omega arith))
