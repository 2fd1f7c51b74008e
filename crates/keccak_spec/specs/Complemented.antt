-- Lane complementing, by which Keccak's authors save most of the negations of χ: between the rounds an implementation holds six lanes
-- complemented. The lanes to complement are given as a state of masks, with 2 ^ 64 - 1 at each of them and 0 at the others.
use Rattle.std.specs.Prelude.{ℕ, ◌-◌, ◌^◌, List, [], ◌∷◌, bit_xor, slice_index}
use Rattle.keccak_spec.specs.Keccak.{lanes, θ, ρπ}

-- a state with the lanes of the masks complemented
unfoldable pub complement : List ℕ → List ℕ → List ℕ
complement masks a = lanes (λ i. bit_xor (slice_index masks i) (slice_index a i))

abbrev pub ones : ℕ
ones = 2 ^ 64 - 1

-- the lanes that are held complemented between the rounds: 1, 2, 8, 12, 17 and 20
unfoldable pub between_rounds : List ℕ
between_rounds =
    0 ∷ ones ∷ ones ∷ 0 ∷ 0
    ∷ 0 ∷ 0 ∷ 0 ∷ ones ∷ 0
    ∷ 0 ∷ 0 ∷ ones ∷ 0 ∷ 0
    ∷ 0 ∷ 0 ∷ ones ∷ 0 ∷ 0
    ∷ ones ∷ 0 ∷ 0 ∷ 0 ∷ 0 ∷ []

-- the lanes that θ, ρ and π then hand complemented to χ
unfoldable pub before_χ : List ℕ
before_χ = ρπ (θ between_rounds)
