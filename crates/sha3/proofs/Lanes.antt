-- The state as a block is mixed into it, lane by lane.
use Rattle.std.proofs.Common.{◌≡◌, ℕ, ◌+◌, ◌*◌, ◌<◌, ◌≤◌, ◌≢◌, List, length, get_or, set, sym, ap, ◌∙◌, ap₂, inl, inr, arith}
use Rattle.std.specs.Int.Bits.{bit_xor, xor_zero_r}
use Rattle.std.proofs.lemmas.List.{length-set, get_or_past, get_or-set_other}
use Rattle.std.proofs.lemmas.Bool.{cases_lt}
use Rattle.std.proofs.lemmas.List.Edits.{fill_by_more}
use Rattle.std.proofs.lemmas.List.FromFn.{fill_by_all}
use Rattle.sha3.specs.Sha3.{lane, mixed_lane, state_with_block}

abbrev pub Filled : (ℕ → ℕ) → ℕ → ℕ → List ℕ → Type 0
Filled f n i r = (length r ≡ n) × ((k : ℕ) → k < i → get_or r k 0 ≡ f k)

pub filled_more : (f : ℕ → ℕ) (n i x : ℕ) (r : List ℕ) → Filled f n i r → i < n → x ≡ f i → Filled f n (i + 1) (set r i x)
filled_more f n i x r (l, p) h e = (
  length-set r i x ∙ l,
  λ k m. ap (λ y. get_or (set r i y) k 0) e ∙ fill_by_more f r i 0 (omega arith) p k m,
)

-- the state with the lanes of a block up to i mixed in
abbrev pub Mixing : List ℕ → List ℕ → ℕ → List ℕ → Type 0
Mixing a bs i s = Filled (mixed_lane a bs) 25 i s × ((k : ℕ) → i ≤ k → get_or s k 0 ≡ get_or a k 0)

pub mixing_more : (a bs s : List ℕ) (i x : ℕ) → Mixing a bs i s → i < 17 → x ≡ lane bs i → Mixing a bs (i + 1) (set s i (bit_xor (get_or s i 0) x))
mixing_more a bs s i x (f, q) h e = (
  filled_more (mixed_lane a bs) 25 i (bit_xor (get_or s i 0) x) s f (omega arith) (ap₂ bit_xor (q i (omega arith)) e),
  λ k m. let ne : k ≢ i = omega arith in get_or-set_other s i k (bit_xor (get_or s i 0) x) 0 ne ∙ q k (omega arith),
)

no_lane : (bs : List ℕ) (i : ℕ) → length bs ≡ 136 → 17 ≤ i → lane bs i ≡ 0
no_lane bs i l h =
    let a = get_or_past bs (8 * i) 0 (omega arith) in
    let b = get_or_past bs (8 * i + 1) 0 (omega arith) in
    let c = get_or_past bs (8 * i + 2) 0 (omega arith) in
    let d = get_or_past bs (8 * i + 3) 0 (omega arith) in
    let e = get_or_past bs (8 * i + 4) 0 (omega arith) in
    let f = get_or_past bs (8 * i + 5) 0 (omega arith) in
    let g = get_or_past bs (8 * i + 6) 0 (omega arith) in
    let m = get_or_past bs (8 * i + 7) 0 (omega arith) in
    omega arith

pub mixing_all : (a bs s : List ℕ) (i : ℕ) → Mixing a bs i s → length bs ≡ 136 → i ≡ 17 → s ≡ state_with_block a bs
unfolding state_with_block
mixing_all a bs s i ((l, p), q) n e =
    fill_by_all (mixed_lane a bs) s 25 0 l
    (λ k m. elim (cases_lt k 17) [
      | inl h ↦ p k (omega arith)
      | inr h ↦ q k (omega arith) ∙ sym (xor_zero_r (get_or a k 0)) ∙ ap (bit_xor (get_or a k 0)) (sym (no_lane bs k n h))
    ])
