use Rattle.std.proofs.Common.{◌≡◌, ℕ, ◌^◌, ◌<◌, List, [], ◌∷◌, slice_index, refl, sym, ap, ◌∙◌, ap₂, rules}
use Rattle.keccak_spec.specs.Keccak.{θ, ρπ, offsets, χ}
use Rattle.keccak_spec.specs.Complemented.{ones, complement, between_rounds, before_χ}
use Rattle.keccak_chi.proofs.Negations.{not_or, plain_and, or_not, plain_or, not_and, held_or, held_not_or, held_not_and, held_and}
use Rattle.keccak_chi.proofs.chi.Goals as goal

-- five lanes, and those after them
row : {p q r s t p' q' r' s' t' : ℕ} {ls ls' : List ℕ} → p ≡ p' → q ≡ q' → r ≡ r' → s ≡ s' → t ≡ t' → ls ≡ ls' → p ∷ q ∷ r ∷ s ∷ t ∷ ls ≡ p' ∷ q' ∷ r' ∷ s' ∷ t' ∷ ls'
row e f g h i rest = ap₂ ◌∷◌ e (ap₂ ◌∷◌ f (ap₂ ◌∷◌ g (ap₂ ◌∷◌ h (ap₂ ◌∷◌ i rest))))

-- the lanes that come complemented
masks : List ℕ
masks =
    ones ∷ 0 ∷ ones ∷ ones ∷ 0
    ∷ ones ∷ 0 ∷ ones ∷ 0 ∷ 0
    ∷ ones ∷ 0 ∷ ones ∷ 0 ∷ 0
    ∷ 0 ∷ ones ∷ 0 ∷ ones ∷ ones
    ∷ ones ∷ 0 ∷ 0 ∷ ones ∷ 0 ∷ []

are_masks : before_χ ≡ masks
unfolding before_χ θ ρπ offsets between_rounds masks
are_masks = refl

at_masks : (a : List ℕ) {l : List ℕ} → l ≡ χ (complement masks a) → l ≡ χ (complement before_χ a)
at_masks a e = e ∙ ap (λ m. χ (complement m a)) (sym are_masks)

pub returns : goal.returns
unfolding χ complement between_rounds masks
returns g c =
    let a = c.args.a.now in
    let h : (i : ℕ) → slice_index a i < 2 ^ 64 = search rules in
    at_masks a
    (row (plain_or a h 0 1 2) (held_not_or a h 1 2 3) (held_and a h 2 3 4) (plain_or a h 3 4 0) (plain_and a h 4 0 1)
    (row (plain_or a h 5 6 7) (plain_and a h 6 7 8) (or_not a h 7 8 9) (held_or a h 8 9 5) (plain_and a h 9 5 6)
    (row (plain_or a h 10 11 12) (plain_and a h 11 12 13) (held_not_and a h 12 13 14) (not_or a h 13 14 10) (plain_and a h 14 10 11)
    (row (plain_and a h 15 16 17) (plain_or a h 16 17 18) (held_not_or a h 17 18 19) (not_and a h 18 19 15) (plain_or a h 19 15 16)
    (row (held_not_and a h 20 21 22) (not_or a h 21 22 23) (plain_and a h 22 23 24) (plain_or a h 23 24 20) (plain_and a h 24 20 21) refl)))))
