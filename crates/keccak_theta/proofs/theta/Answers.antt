use Rattle.std.proofs.Common.{◌≡◌, ℕ, ◌+◌, ◌%◌, List, [], ◌∷◌, get_or, bit_xor, ap}
use Rattle.keccak_spec.specs.Keccak.{lanes, column, rotl, θ}
use Rattle.keccak_theta.proofs.theta.Goals as goal

-- the step, from the five rotated parities
abbrev stepped : List ℕ → List ℕ → List ℕ
stepped a rs = lanes (λ i. bit_xor (get_or a i 0) (bit_xor (column a ((i + 4) % 5)) (get_or rs ((i + 1) % 5) 0)))

same : (a : List ℕ) (r0 r1 r2 r3 r4 : ℕ) → r0 ≡ rotl 1 (column a 0) → r1 ≡ rotl 1 (column a 1) → r2 ≡ rotl 1 (column a 2)
    → r3 ≡ rotl 1 (column a 3) → r4 ≡ rotl 1 (column a 4) → stepped a (r0 ∷ r1 ∷ r2 ∷ r3 ∷ r4 ∷ []) ≡ θ a
unfolding θ
same a r0 r1 r2 r3 r4 p0 p1 p2 p3 p4 =
    let rs : List ℕ = rotl 1 (column a 0) ∷ rotl 1 (column a 1) ∷ rotl 1 (column a 2) ∷ rotl 1 (column a 3) ∷ rotl 1 (column a 4) ∷ [] in
    let e : r0 ∷ r1 ∷ r2 ∷ r3 ∷ r4 ∷ [] ≡ rs = rw (p0, p1, p2, p3, p4) in
    ap (stepped a) e

pub returns : goal.returns
returns g c =
    same c.args.a.now _ _ _ _ _ c.rotate_left-5.ensures c.rotate_left.ensures c.rotate_left-2.ensures c.rotate_left-3.ensures c.rotate_left-4.ensures
