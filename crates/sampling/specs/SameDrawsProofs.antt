-- Proof only, not to be read to believe a contract: two ways to draw that are equal on what can be held draw alike, also below a bound and as uniform bits.
use Rattle.std.specs.Prelude.{◌≡◌, ℕ, zero, suc, ◌-◌, ◌/◌, Bool, Ok, Err, Result, ◌==◌, nat_le, nat_lt, if◌then◌else◌, IsTrue, refl}
use Rattle.std.proofs.Common.{ap, ◌∙◌}
use Rattle.std.proofs.lemmas.Bool.{cond_both}
use Rattle.refusal.specs.declared.Refusal.{Refusal}
use Rattle.refusal.specs.declared.Refusal.TheVariants.{Bits, DrawLimit}
use Rattle.challenger_traits.specs.Meaning.{Reply, reply, reply_if_passed, bits_fit}
use Rattle.sampling.specs.Draws.{is_draw_limit, DrawResult, or_no_draw, draw_if_below, draw_below}
use Rattle.sampling.specs.Uniform.{sampling_bound, low_bits, with_high_part, high_part, part_of, parts_of, uniform_of}

-- the ways to draw f and g are equal on what can be held, and a draw leads from such a value to another
pub record SameDraws {Held : Type 0} (can_be_held : Held → Bool) (f g : Held → Reply ℕ Held) : Type 0 where
  pub draws : (h : Held) → IsTrue (can_be_held h) → f h ≡ g h
  pub drawn : (h : Held) → IsTrue (can_be_held h) → IsTrue (can_be_held (f h).left)

module _ {Held : Type 0} (can_be_held : Held → Bool) (f g : Held → Reply ℕ Held) (same : SameDraws can_be_held f g) where
  -- what is left after a call can be held
  abbrev Leads : {Said : Type 0} → Reply Said Held → Type 0
  Leads r = IsTrue (can_be_held r.left)

  pub below-same : (end more : ℕ) (h : Held) → IsTrue (can_be_held h) → draw_below f end more h ≡ draw_below g end more h
  below-same end zero h ok = ap (λ (r : Reply ℕ Held). if nat_lt r.said end then reply {Said = DrawResult} (Ok r.said) r.left else reply (Err (r.said, end)) r.left) (same.draws h ok)
  below-same end (suc more) h ok =
      ap (draw_if_below f end h) (below-same end more (f h).left (same.drawn h ok))
      ∙ ap (λ (r : Reply ℕ Held). if nat_lt r.said end then reply {Said = DrawResult} (Ok r.said) r.left else draw_below g end more r.left) (same.draws h ok)

  pub below-left : (end more : ℕ) (h : Held) → IsTrue (can_be_held h) → IsTrue (can_be_held (draw_below f end more h).left)
  below-left end zero h ok = cond_both (nat_lt (f h).said end) _ _ (Leads {Said = DrawResult}) (λ e. same.drawn h ok) (λ e. same.drawn h ok)
  below-left end (suc more) h ok =
      cond_both (nat_lt (f h).said end) _ _ (Leads {Said = DrawResult}) (λ e. same.drawn h ok) (λ e. below-left end more (f h).left (same.drawn h ok))

  module _ (order : ℕ) where
    pub part-same : (b limit : ℕ) (h : Held) → IsTrue (can_be_held h) → part_of f order b limit h ≡ part_of g order b limit h
    unfolding part_of
    part-same b limit h ok = ap (λ (r : Reply DrawResult Held). reply (low_bits b r.said) r.left) (below-same (sampling_bound order b) (limit - 1) h ok)

    pub part-left : (b limit : ℕ) (h : Held) → IsTrue (can_be_held h) → IsTrue (can_be_held (part_of f order b limit h).left)
    unfolding part_of
    part-left b limit h ok = below-left (sampling_bound order b) (limit - 1) h ok

    high-same : (b c limit : ℕ) (d : DrawResult) (h : Held) → IsTrue (can_be_held h) → high_part f order b c limit d h ≡ high_part g order b c limit d h
    high-same b c limit (Ok v) h ok = ap (λ (r : Reply DrawResult Held). reply (with_high_part b v r.said) r.left) (part-same c limit h ok)
    high-same b c limit (Err p) h ok = refl

    high-left : (b c limit : ℕ) (d : DrawResult) (h : Held) → IsTrue (can_be_held h) → IsTrue (can_be_held (high_part f order b c limit d h).left)
    high-left b c limit (Ok v) h ok = part-left c limit h ok
    high-left b c limit (Err p) h ok = ok

    module _ (single : ℕ) where
      pub parts-same : (b limit : ℕ) (h : Held) → IsTrue (can_be_held h) → parts_of f order single b limit h ≡ parts_of g order single b limit h
      unfolding parts_of
      parts-same b limit h ok =
          let low = part_of f order (b / 2) limit h in
          ap (λ r. if nat_le b single then r else high_part f order (b / 2) (b - b / 2) limit low.said low.left) (part-same b limit h ok)
          ∙ ap (λ r. if nat_le b single then part_of g order b limit h else r) (high-same (b / 2) (b - b / 2) limit low.said low.left (part-left (b / 2) limit h ok))
          ∙ ap (λ (r : Reply DrawResult Held). if nat_le b single then part_of g order b limit h else high_part g order (b / 2) (b - b / 2) limit r.said r.left) (part-same (b / 2) limit h ok)

      pub parts-left : (b limit : ℕ) (h : Held) → IsTrue (can_be_held h) → IsTrue (can_be_held (parts_of f order single b limit h).left)
      unfolding parts_of
      parts-left b limit h ok =
          let low = part_of f order (b / 2) limit h in
          cond_both (nat_le b single) _ _ (Leads {Said = DrawResult}) (λ e. part-left b limit h ok)
          (λ e. high-left (b / 2) (b - b / 2) limit low.said low.left (part-left (b / 2) limit h ok))

      pub uniform-same : (h : Held) (b limit : ℕ) → IsTrue (can_be_held h) → uniform_of f order single h b limit ≡ uniform_of g order single h b limit
      unfolding uniform_of
      uniform-same h b limit ok =
          ap (λ (r : Reply DrawResult Held). reply_if_passed (bits_fit order b) Bits h
          (if b == 0 then reply (Ok 0) h else reply_if_passed (is_draw_limit limit) DrawLimit h (reply (or_no_draw r.said) r.left))) (parts-same b limit h ok)

      pub uniform-left : (h : Held) (b limit : ℕ) → IsTrue (can_be_held h) → IsTrue (can_be_held (uniform_of f order single h b limit).left)
      unfolding uniform_of
      uniform-left h b limit ok =
          cond_both (bits_fit order b) _ _ (Leads {Said = Result ℕ Refusal})
          (λ q. cond_both (b == 0) _ _ (Leads {Said = Result ℕ Refusal}) (λ z. ok)
          (λ z. cond_both (is_draw_limit limit) _ _ (Leads {Said = Result ℕ Refusal}) (λ l. parts-left b limit h ok) (λ l. ok)))
          (λ q. ok)
