use Rattle.std.proofs.Common.{◌≡◌, ℕ, List, ◌++◌, [], ◌∷◌, ◌+◌, ◌%◌, ◌^◌, ◌<◌, ◌≤◌, eqb, length, sym, ap, ◌∙◌, rules, arith}
use Rattle.std.proofs.lemmas.List.{length-append}
use Rattle.buffer.specs.Items.{items}
use Rattle.sponge.specs.Sponge.{block_turn, last_output}
use Rattle.sponge.proofs.Turning.{length_code}
use Rattle.prepared_grind.specs.Tests.{with_last}
use Rattle.prepared_grind.proofs.Accepted.{accepts_is}
use Rattle.duplex_challenger.specs.Rules.{after_code, sample_of}
use Rattle.duplex_challenger.specs.Holds.{held_value, make_meaning}
use Rattle.duplex_challenger.proofs.Prepared.{drawn_said, with_witness, full}
use Rattle.duplex_challenger.proofs.grinding.DuplexChallengerCanPrepareCheck.prepare_check.Goals as goal

pub new-requires : goal.new-requires
new-requires g c =
    let s = c.args.self.now in
    let more : length (items c.push.new.self) ≡ length (items s.pending) + 1 = ap length c.push.ensures ∙ length-append (items s.pending) (0 ∷ []) in
    let some : 0 < length (items c.push.new.self) = omega (arith, more) in
    let room : length (items c.push.new.self) ≤ s.sponge.rate = omega (arith, more, s.room) in
    let code : c.len.result < g.row.ORDER = length_code s.sponge c.len.result (omega (arith, c.len.ensures, room, s.room)) in
    search rules

pub returns : goal.returns
returns g c = λ b q some w lt.
    let s = c.args.self.now in
    let k = make_meaning s in
    let xs = items s.pending in
    let out = λ (words : List ℕ) (tag : ℕ). last_output (block_turn k (items s.sponge.row) words tag).outputs in
    let words = ap (λ ws. with_last ws w) c.push.ensures ∙ with_witness xs w in
    let tag : c.len.result ≡ length (xs ++ (w ∷ [])) = omega (arith, c.len.ensures, ap length c.push.ensures, length-append xs (0 ∷ []), length-append xs (w ∷ [])) in
    let came = c.new.ensures w ∙ ap (λ ws. out ws c.len.result) words ∙ ap (out (xs ++ (w ∷ []))) tag in
    ap (λ v. eqb (v % 2 ^ b) 0) (came ∙ drawn_said k (held_value s) w (full s.sponge s.pending w lt s.room))
    ∙ sym (accepts_is g.row.ORDER (after_code k) (sample_of k) (held_value s) b w q some lt)
