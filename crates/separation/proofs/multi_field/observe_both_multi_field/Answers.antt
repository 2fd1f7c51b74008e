use Rattle.std.proofs.Common.{sym, ap, ◌∙◌}
use Rattle.multi_field_challenger.specs.declared.held.MultiHeld.{MultiHeld}
use Rattle.separation.specs.Blocks.{numbers_of}
use Rattle.separation.proofs.MultiRows.{row_is, both_apart}
use Rattle.separation.proofs.multi_field.observe_both_multi_field.Goals as goal

pub returns-clause-turns : goal.returns-clause-turns
returns-clause-turns g c =
    λ _. (
      ap (λ (h : MultiHeld). h.row) c.give.ensures.state ∙ row_is g.ORDER.fits.fits c.args.first.now (numbers_of c.args.left) (sym c.takes.ensures ∙ c.if-not-takes.false),
      ap (λ (h : MultiHeld). h.row) c.give-2.ensures.state ∙ row_is g.ORDER.fits.fits c.args.second.now (numbers_of c.args.right) (sym c.takes-else-not-takes.ensures ∙ c.if-not-takes-2.false),
    )

pub returns-clause-apart : goal.returns-clause-apart
returns-clause-apart g c =
    λ _ same rows unlike. both_apart g.ORDER.fits.fits c.args.first.now c.args.second.now _ _ (numbers_of c.args.left) (numbers_of c.args.right)
    (sym c.takes.ensures ∙ c.if-not-takes.false) (sym c.takes-else-not-takes.ensures ∙ c.if-not-takes-2.false) c.give.ensures.state c.give-2.ensures.state same rows unlike
