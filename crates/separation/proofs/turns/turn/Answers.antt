use Rattle.std.proofs.Common.{◌≡◌, ℕ, true, rules, arith, lit<, lit≤, ◌∙◌, ap, Some, Option}
use Rattle.permutation.specs.RowsProofs.{codes-all_codes}
use Rattle.sponge.proofs.Turning.{rate_small}
use Rattle.separation.specs.declared.block.Block.{Block}
use Rattle.separation.specs.declared.block.Block.TheVariants.{Codes, Scalars, Words}
use Rattle.separation.specs.Blocks.{numbers_of, is_list_of_codes, is_scalars_block, is_turn}
use Rattle.separation.proofs.BlockKinds.{list_few, list_codes, scalars_batch, scalars_list}
use Rattle.separation.proofs.turns.turn.Goals as goal

-- what is asked of a block, at the block that was found
asked : (sampled order rate : ℕ) (given : Option Block) (block : Block) → given ≡ Some block → is_turn sampled order rate (numbers_of given) ≡ true → is_turn sampled order rate (numbers_of (Some block)) ≡ true
asked sampled order rate given block e h = rw e at h

pub from_slice-requires : goal.from_slice-requires
from_slice-requires g c =
    let s = c.args.sponge.now in
    let xs = c.in-Some-Codes.codes.now in
    let found : c.in-Some-Codes.field-0 ≡ Codes c.in-Some-Codes.codes = rw c.in-Some-Codes.is at c.in-Some-Codes.field-0-is in
    let h : is_list_of_codes g.row.ORDER s.rate xs ≡ true = asked g.row.SAMPLED g.row.ORDER s.rate c.args.block (Codes c.in-Some-Codes.codes) (c.in-Some-Codes.is ∙ ap Some found) c.requires.turn in
    (lit< tt, (omega (arith, list_few g.row.ORDER s.rate xs h, rate_small s), (lit≤ tt, list_codes g.row.ORDER s.rate xs h)))

pub absorb_group-requires : goal.absorb_group-requires
absorb_group-requires g c =
    let s = c.args.sponge.now in
    let xs = c.in-Some-Words.words.now in
    let found : c.in-Some-Words.field-0 ≡ Words c.in-Some-Words.words = rw c.in-Some-Words.is at c.in-Some-Words.field-0-is in
    let h : is_list_of_codes g.row.ORDER s.rate xs ≡ true = asked g.row.SAMPLED g.row.ORDER s.rate c.args.block (Words c.in-Some-Words.words) (c.in-Some-Words.is ∙ ap Some found) c.requires.turn in
    let few = list_few g.row.ORDER s.rate xs h in
    let codes = codes-all_codes g.row.ORDER xs (list_codes g.row.ORDER s.rate xs h) in
    search rules

pub from_slice-requires-in-Some-Scalars : goal.from_slice-requires-in-Some-Scalars
from_slice-requires-in-Some-Scalars g c =
    let s = c.args.sponge.now in
    let xs = c.in-Some-Scalars.scalars.now in
    let found : c.in-Some-Scalars.field-0 ≡ Scalars c.in-Some-Scalars.scalars = rw c.in-Some-Scalars.is at c.in-Some-Scalars.field-0-is in
    let h : is_scalars_block g.row.SAMPLED g.row.ORDER s.rate xs ≡ true = asked g.row.SAMPLED g.row.ORDER s.rate c.args.block (Scalars c.in-Some-Scalars.scalars) (c.in-Some-Scalars.is ∙ ap Some found) c.requires.turn in
    let list = scalars_list g.row.SAMPLED g.row.ORDER s.rate xs h in
    (lit< tt, (omega (arith, list_few g.row.SAMPLED _ xs list, scalars_batch g.row.SAMPLED g.row.ORDER s.rate xs h), (lit≤ tt, list_codes g.row.SAMPLED _ xs list)))
