-- Bytes in turn as a transcript takes them, and as codes.
use Rattle.std.proofs.Common.{◌≡◌, ℕ, ◌%◌, true, ltb, List, [], ◌∷◌, sym, refl, ap, ◌∙◌, mod-eq_of_lt, arith}
use Rattle.std.proofs.lemmas.Bool.{and_parts, ltb-true}
use Rattle.domain.specs.Codes.{all_codes}
use Rattle.challenger_traits.specs.Observing.{after_codes}
use Rattle.sponge.specs.Sponge.{SpongeMake}
use Rattle.byte_transcript.specs.Transcript.{after_bytes}
use Rattle.duplex_challenger.specs.declared.held.DuplexHeld.{DuplexHeld}
use Rattle.duplex_challenger.specs.Rules.{after_code}
use Rattle.duplex_challenger.specs.Bytes.{byte_transcript}

pub bytes_same : {order : ℕ} (k : SpongeMake order) (h : DuplexHeld) (bs : List ℕ) → order ≡ 256 → all_codes order bs ≡ true
    → after_codes (after_code k) h bs ≡ after_bytes (byte_transcript k) h bs
bytes_same k h [] is codes = refl
bytes_same {order} k h (b ∷ bs) is codes =
    let both = and_parts (ltb b order) (all_codes order bs) codes in
    let lt = ltb-true b order both.0 in
    let same : b % 256 ≡ b = mod-eq_of_lt (omega (arith, lt, is)) in
    bytes_same k (after_code k h b) bs is both.1 ∙ ap (λ c. after_bytes (byte_transcript k) (after_code k h c) bs) (sym same)
