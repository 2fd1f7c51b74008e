-- Proof only, not to be read to believe a contract: in a domain's addition an addend may be cancelled.
use Rattle.std.specs.Prelude.{◌≡◌, ℕ, ◌<◌}
use Rattle.std.proofs.Common.{sym, ap, ◌∙◌}
use Rattle.domain.specs.Arithmetic.{Arithmetic}

pub add_cancel : {order : ℕ} (d : Arithmetic order) (a b s : ℕ) → a < order → b < order → s < order → d.add a s ≡ d.add b s → a ≡ b
add_cancel {order} d a b s ha hb hs e =
    let o = d.laws.opposite s hs in
    let undo : (x : ℕ) → x < order → d.add (d.add x s) o.0 ≡ x =
    λ x hx. d.laws.assoc x s o.0 hx hs o.1 ∙ ap (d.add x) o.2 ∙ d.laws.neutral x hx in
    sym (undo a ha) ∙ ap (λ y. d.add y o.0) e ∙ undo b hb
