use Rattle.std.proofs.Common.{◌≡◌, ℕ, Bool, true, Option, sym, ap, ◌∙◌}
use Rattle.sponge.specs.Sponge.{SpongeState}
use Rattle.sponge.specs.Tags.{Numbers}
use Rattle.separation.specs.Blocks.{numbers_of, is_turn}
use Rattle.separation.proofs.BlockKinds.{sponge_tags, sponge_separates, sponge_turns_separate, rows_apart}
use Rattle.separation.proofs.turns.turn_both.Goals as goal

-- a test that answered yes, at what the rate was read as
tells : (sampled order read rate : ℕ) (given : Option Numbers) (answer : Bool) → read ≡ rate → answer ≡ is_turn sampled order read given → answer ≡ true → is_turn sampled order rate given ≡ true
tells sampled order read rate given answer r e h = ap (λ n. is_turn sampled order n given) (sym r) ∙ sym e ∙ h

pub returns-then-not-is_turn-clause-separation : goal.returns-then-not-is_turn-clause-separation
returns-then-not-is_turn-clause-separation g c = sponge_turns_separate c.args.first.now g.row.SAMPLED g.F.Domain.arithmetic.low

pub returns-clause-separation : goal.returns-clause-separation
returns-clause-separation g c = sponge_turns_separate c.args.first.now g.row.SAMPLED g.F.Domain.arithmetic.low

pub returns-then-not-is_turn-clause-any_tags : goal.returns-then-not-is_turn-clause-any_tags
returns-then-not-is_turn-clause-any_tags g c = sponge_separates c.args.first.now g.row.SAMPLED g.F.Domain.arithmetic.low

pub returns-clause-any_tags : goal.returns-clause-any_tags
returns-clause-any_tags g c = sponge_separates c.args.first.now g.row.SAMPLED g.F.Domain.arithmetic.low

pub returns-then-not-is_turn-clause-tags : goal.returns-then-not-is_turn-clause-tags
returns-then-not-is_turn-clause-tags g c = sponge_tags c.args.first.now g.row.SAMPLED g.F.Domain.arithmetic.low

pub returns-clause-tags : goal.returns-clause-tags
returns-clause-tags g c = sponge_tags c.args.first.now g.row.SAMPLED g.F.Domain.arithmetic.low

pub returns-clause-apart : goal.returns-clause-apart
returns-clause-apart g c =
    let s = c.args.first.now in
    let t = c.args.second.now in
    let left = numbers_of c.args.left in
    let right = numbers_of c.args.right in
    let fits = tells g.row.SAMPLED g.row.ORDER _ s.rate left _ c.rate.ensures.value c.is_turn.ensures c.if-not-is_turn.false in
    let fits-2 = tells g.row.SAMPLED g.row.ORDER _ t.rate right _ c.rate-else-not-is_turn.ensures.value c.is_turn-else-not-is_turn.ensures c.if-not-is_turn-2.false in
    λ _ same rows unlike. rows_apart s t g.row.SAMPLED g.F.Domain.arithmetic.low left right fits fits-2 _ _
    (ap (λ (u : SpongeState). u.row) c.turn.ensures.state) (ap (λ (u : SpongeState). u.row) c.turn-2.ensures.state) same rows unlike
