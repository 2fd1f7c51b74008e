use Rattle.std.proofs.Common.{sym, ap, ◌∙◌}
use Rattle.duplex_challenger.specs.declared.held.DuplexHeld.{DuplexHeld}
use Rattle.separation.specs.Blocks.{numbers_of}
use Rattle.separation.proofs.DuplexRows.{row_is, both_apart}
use Rattle.separation.proofs.duplex.observe_both_duplex.Goals as goal

pub returns-clause-turns : goal.returns-clause-turns
returns-clause-turns g c =
    λ _ sampled. (
      ap (λ (h : DuplexHeld). h.row) c.give.ensures.state ∙ row_is c.args.first.now sampled (numbers_of c.args.left) (sym c.takes.ensures ∙ c.if-not-takes.false),
      ap (λ (h : DuplexHeld). h.row) c.give-2.ensures.state ∙ row_is c.args.second.now sampled (numbers_of c.args.right) (sym c.takes-else-not-takes.ensures ∙ c.if-not-takes-2.false),
    )

pub returns-clause-apart : goal.returns-clause-apart
returns-clause-apart g c =
    λ _ same rows unlike. both_apart c.args.first.now c.args.second.now _ _ (numbers_of c.args.left) (numbers_of c.args.right)
    (sym c.takes.ensures ∙ c.if-not-takes.false) (sym c.takes-else-not-takes.ensures ∙ c.if-not-takes-2.false) c.give.ensures.state c.give-2.ensures.state same rows unlike
