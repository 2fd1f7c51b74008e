use Rattle.std.proofs.Common.{◌≡◌, ℕ, [], ◌∷◌, ◌++◌, ◌*◌, map, drop, length, sym, ap, ◌∙◌, arith, lit<}
use Rattle.std.specs.List.{range_with_len}
use Rattle.std.specs.Slice.Iter.{chunks_rest, chunks_size}
use Rattle.std.proofs.lemmas.List.{length_push}
use Rattle.std.proofs.lemmas.List.FromFn.{length-map-range_with_len, map-range_with_len_more}
use Rattle.buffer.specs.Items.{items}
use Rattle.code_bits.specs.CodeBits.{code_bits}
use Rattle.refusal.specs.declared.limits.TheConstants.{WIDEST_ROW}
use Rattle.packing.specs.Packing.{pack, group, packed_words}
use Rattle.packing.specs.PackingProofs.{groups-few}
use Rattle.packing.proofs.Groups.{piece_more, piece_end}
use Rattle.packing.proofs.Facts.{some}
use Rattle.packing.proofs.RadixPacking.pack_all.Goals as goal

pub chunks-group-items-requires : goal.chunks-group-items-requires
chunks-group-items-requires g c =
    omega (arith, some c.args.self.now g.ORDER.fits.fits)

pub loop-group-init : goal.loop-group-init
loop-group-init g c =
    let n = c.args.self.now in
    let one = some n g.ORDER.fits.fits in
    let vs = items c.args.scalars.now in
    let it = c.into_iter-group-iterator.ensures.into_iter_gives in
    let size : chunks_size c.into_iter-group-iterator.result ≡ n.limbs = ap chunks_size it ∙ c.chunks-group-items.ensures.size in
    let none : 0 ≡ 0 * n.limbs = omega arith in
    (omega (arith, one, size), tt, size, ap chunks_rest it ∙ c.chunks-group-items.ensures.rest ∙ c.as_slice.ensures ∙ ap (λ k. drop k vs) none, omega arith, c.clear.ensures)

pub push-requires : goal.push-requires
push-requires g c =
    let n = c.args.self.now in
    let vs = items c.args.scalars.now in
    let one = some n g.ORDER.fits.fits in
    let l = c.loop-group in
    let t = piece_more n.limbs one vs (length l.yielded) _ _ c.in-Some.group.now (chunks_rest c.next.new.self) l.invariant.2 l.invariant.3 c.in-Some.ensures.steps.1 in
    let w = ap length l.invariant.5 ∙ length-map-range_with_len (λ i. pack (code_bits g.row.SAMPLED) (group n.limbs vs i)) 0 (length l.yielded) in
    (lit< tt, (omega (arith, w, t.2, groups-few n.limbs one WIDEST_ROW vs c.requires.room), c.pack_group.ensures.code))

pub loop-group-preserved : goal.loop-group-preserved
loop-group-preserved g c =
    let n = c.args.self.now in
    let vs = items c.args.scalars.now in
    let one = some n g.ORDER.fits.fits in
    let l = c.loop-group in
    let i = length l.yielded in
    let f : ℕ → ℕ = λ j. pack (code_bits g.row.SAMPLED) (group n.limbs vs j) in
    let t = piece_more n.limbs one vs i _ _ c.in-Some.group.now (chunks_rest c.next.new.self) l.invariant.2 l.invariant.3 c.in-Some.ensures.steps.1 in
    let more = length_push l.yielded c.in-Some.group in
    let size : chunks_size c.next.new.self ≡ n.limbs = c.in-Some.ensures.steps.0 ∙ l.invariant.2 in (
      omega (arith, one, size),
      tt,
      size,
      t.1 ∙ ap (λ k. drop (k * n.limbs) vs) (sym more),
      omega (arith, t.2, more),
      c.push.ensures ∙ ap (λ xs. xs ++ (c.pack_group.result ∷ [])) l.invariant.5
          ∙ ap (λ x. map f (range_with_len 0 i) ++ (x ∷ [])) (c.pack_group.ensures.value ∙ ap (pack (code_bits g.row.SAMPLED)) t.0)
          ∙ sym (ap (λ k. map f (range_with_len 0 k)) more ∙ map-range_with_len_more f 0 i i (omega arith)),
    )

pub returns : goal.returns
unfolding packed_words
returns g c =
    let n = c.args.self.now in
    let vs = items c.args.scalars.now in
    let one = some n g.ORDER.fits.fits in
    let l = c.loop-group in
    let done = piece_end n.limbs one vs (length l.yielded) _ l.invariant.3 c.in-None.ensures.steps.1.0 l.invariant.4 in
    l.invariant.5 ∙ ap (λ m. map (λ i. pack (code_bits g.row.SAMPLED) (group n.limbs vs i)) (range_with_len 0 m)) done
    ∙ ap (λ m. packed_words (code_bits g.row.SAMPLED) m vs) n.sized
