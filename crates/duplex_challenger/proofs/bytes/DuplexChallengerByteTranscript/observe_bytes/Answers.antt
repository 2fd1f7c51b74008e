use Rattle.std.proofs.Common.{◌≡◌, ◌≤◌, Ok, sym, ap, ◌∙◌, length, arith}
use Rattle.std.proofs.lemmas.Bool.{cond-true, le-leb}
use Rattle.challenger_traits.specs.Meaning.{observe_of}
use Rattle.byte_transcript.specs.Transcript.{after_bytes, after_observe_bytes}
use Rattle.duplex_challenger.specs.Holds.{held_value, make_meaning}
use Rattle.duplex_challenger.specs.declared.bytes.TheConstants.{UNBOUNDED_ROOM}
use Rattle.duplex_challenger.specs.Bytes.{byte_transcript}
use Rattle.duplex_challenger.proofs.Bytewise.{bytes_same}
use Rattle.duplex_challenger.proofs.bytes.DuplexChallengerByteTranscript.observe_bytes.Goals as goal

pub returns : goal.returns
returns g c =
    let s = c.args.self.now in
    let bs = c.args.bytes.now in
    let k = make_meaning s in
    let m = byte_transcript k in
    let h = held_value s in
    let fits : length bs ≤ UNBOUNDED_ROOM = omega (arith, c.type_inv.bytes) in
    let taken : after_observe_bytes m h bs ≡ Ok (after_bytes m h bs) = cond-true _ _ _ (le-leb (length bs) UNBOUNDED_ROOM fits) in
    let did = c.observe_byte_codes.ensures in
    record {
      does = record {
        answer = sym (ap (λ r. (observe_of r h).said) taken);
        state = did.state ∙ bytes_same k h bs g.D.ByteDomain.bytes did.codes ∙ sym (ap (λ r. (observe_of r h).left) taken);
        same_make = did.make;
      };
    }
