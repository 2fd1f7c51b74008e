use Rattle.std.proofs.Common.{◌≡◌, ◌*◌, ◌≤◌, length, drop, sym, subst, ap, ◌∙◌, rules, arith}
use Rattle.std.specs.Slice.Iter.{chunks_rest, chunks_size}
use Rattle.std.proofs.lemmas.List.{length_push}
use Rattle.permutation.specs.Rows.{HasOnlyCodes}
use Rattle.permutation.specs.RowsProofs.{all_codes-codes, codes-all_codes}
use Rattle.sponge.specs.SpongeHeld.{held_value, make_meaning}
use Rattle.packing.specs.PackingProofs.{group-length, group-codes}
use Rattle.packing.proofs.Groups.{piece_more, piece_end}
use Rattle.multi_field_blocks.specs.Blocks.{words_block_turn, after_groups}
use Rattle.multi_field_blocks.proofs.Turns.{same_making, block_more}
use Rattle.multi_field_blocks.proofs.absorbing.absorb_words.Goals as goal

pub absorb_group-requires : goal.absorb_group-requires
absorb_group-requires g c =
    let s = c.args.sponge.now in
    let ws = c.args.words.now in
    let l = c.loop-group in
    let i = length l.yielded in
    let t = piece_more s.rate s.some ws i _ _ c.in-Some.group.now (chunks_rest c.next.new.self) l.invariant.2 l.invariant.3 c.in-Some.ensures.steps.1 in
    let few : length c.in-Some.group.now ≤ l.sponge.rate = omega (arith, ap length t.0, group-length s.rate s.some ws i, l.invariant.5.rate) in
    let codes = codes-all_codes g.row.ORDER c.in-Some.group.now (subst (HasOnlyCodes g.row.ORDER) (sym t.0) (group-codes s.rate s.some g.row.ORDER ws i (all_codes-codes g.row.ORDER ws c.requires.codes))) in
    search rules

pub loop-group-preserved : goal.loop-group-preserved
loop-group-preserved g c =
    let s = c.args.sponge.now in
    let ws = c.args.words.now in
    let k = make_meaning s in
    let l = c.loop-group in
    let i = length l.yielded in
    let more = length_push l.yielded c.in-Some.group in
    let size : chunks_size c.next.new.self ≡ s.rate = c.in-Some.ensures.steps.0 ∙ l.invariant.2 in
    let t = piece_more s.rate s.some ws i _ _ c.in-Some.group.now (chunks_rest c.next.new.self) l.invariant.2 l.invariant.3 c.in-Some.ensures.steps.1 in
    let make = l.invariant.5 in
    let turn = c.absorb_group.ensures.state ∙ ap (λ m. words_block_turn m (held_value l.sponge).row c.in-Some.group.now) (same_making make) in (
      omega (arith, size, s.some),
      tt,
      size,
      t.1 ∙ ap (λ n. drop (n * s.rate) ws) (sym more),
      omega (arith, t.2, more),
      record { permutation = c.absorb_group.ensures.make.permutation ∙ make.permutation; width = c.absorb_group.ensures.make.width ∙ make.width; rate = c.absorb_group.ensures.make.rate ∙ make.rate },
      block_more k (held_value s) (held_value l.sponge) _ ws _ i l.invariant.6 t.0 turn ∙ ap (after_groups k (held_value s) ws) (sym more),
    )

pub returns-clause-state : goal.returns-clause-state
returns-clause-state g c =
    let s = c.args.sponge.now in
    let ws = c.args.words.now in
    let l = c.loop-group in
    l.invariant.6 ∙ ap (after_groups (make_meaning s) (held_value s) ws) (piece_end s.rate s.some ws (length l.yielded) _ l.invariant.3 c.in-None.ensures.steps.1.0 l.invariant.4)
