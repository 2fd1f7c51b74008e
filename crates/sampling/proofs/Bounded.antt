-- The cases of a bounded draw.
use Rattle.std.proofs.Common.{◌≡◌, ℕ, zero, suc, ◌-◌, ◌<◌, ◌≤◌, true, false, ltb, ◌≢◌, Ok, Err, sym, refl, ap, ◌∙◌, arith}
use Rattle.std.proofs.lemmas.Bool.{lt-ltb, le-ltb, cond-true, cond-false}
use Rattle.challenger_traits.specs.Meaning.{Reply, reply}
use Rattle.sampling.specs.Draws.{DrawResult, draw_below}

-- a draw at h gave the value v and left g
module _ {Held : Type 0} (draw_of : Held → Reply ℕ Held) (end : ℕ) (h g : Held) (v : ℕ) (is : draw_of h ≡ reply v g) where
  said : (draw_of h).said ≡ v
  said = ap (λ (r : Reply ℕ Held). r.said) is

  left : (draw_of h).left ≡ g
  left = ap (λ (r : Reply ℕ Held). r.left) is

  accepted : reply {Said = DrawResult} (Ok (draw_of h).said) (draw_of h).left ≡ reply (Ok v) g
  accepted = ap (λ (r : Reply ℕ Held). reply {Said = DrawResult} (Ok r.said) r.left) is

  below : v < end → ltb (draw_of h).said end ≡ true
  below l = ap (λ x. ltb x end) said ∙ lt-ltb v end l

  past : end ≤ v → ltb (draw_of h).said end ≡ false
  past l = ap (λ x. ltb x end) said ∙ le-ltb v end l

  pub draw_accept : (more : ℕ) → v < end → draw_below draw_of end more h ≡ reply (Ok v) g
  draw_accept zero l = cond-true _ _ _ (below l) ∙ accepted
  draw_accept (suc more) l = cond-true _ _ _ (below l) ∙ accepted

  pub draw_last : (more : ℕ) → more ≡ 0 → end ≤ v → draw_below draw_of end more h ≡ reply (Err (v, end)) g
  draw_last zero z l = cond-false _ _ _ (past l) ∙ ap (λ (r : Reply ℕ Held). reply {Said = DrawResult} (Err (r.said, end)) r.left) is
  draw_last (suc more) z l = absurd (omega arith)

  pub draw_again : (more : ℕ) → more ≢ 0 → end ≤ v → draw_below draw_of end (more - 1) g ≡ draw_below draw_of end more h
  draw_again zero nz l = absurd (nz refl)
  draw_again (suc more) nz l =
      let e : suc more - 1 ≡ more = omega arith in
      ap (λ n. draw_below draw_of end n g) e ∙ ap (draw_below draw_of end more) (sym left) ∙ sym (cond-false _ _ _ (past l))
