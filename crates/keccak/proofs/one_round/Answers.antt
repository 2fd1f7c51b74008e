use Rattle.std.proofs.Common.{◌≡◌, ℕ, ◌^◌, ◌<◌, length, slice_index, sym, ap, ◌∙◌, rules}
use Rattle.keccak_spec.specs.Keccak.{ρπ, χ, ι, round}
use Rattle.keccak_spec.specs.Complemented.{complement, before_χ}
use Rattle.keccak_spec.proofs.Complementing.{to_χ, complement-ι}
use Rattle.keccak.proofs.one_round.Goals as goal

pub returns : goal.returns
unfolding round
returns g c =
    let a = c.args.a.now in
    let r = c.chi-r.result in
    let n : length r ≡ 25 = search rules in
    let h : (i : ℕ) → slice_index a i < 2 ^ 64 = search rules in
    let linear = c.rho_pi.ensures ∙ ap ρπ c.theta.ensures in
    complement-ι c.args.constant r n
    ∙ ap (ι c.args.constant) (c.chi-r.ensures ∙ ap (λ b. χ (complement before_χ b)) linear ∙ ap χ (sym (to_χ a (λ i l. h i))))
