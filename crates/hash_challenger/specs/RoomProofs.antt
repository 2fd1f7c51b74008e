-- Proof only: what a hash challenger holds obeys the laws of the room.
use Rattle.std.specs.Prelude.{◌≡◌, ℕ, ◌≤◌, true, List, [], ◌∷◌, length, ◌==◌, nat_le}
use Rattle.std.proofs.Common.{⊎_elim, arith, length-append}
use Rattle.std.proofs.lemmas.Bool.{cond_both, or_right, or_cases, le-leb, leb-true, both_ways}
use Rattle.hasher.specs.Hashing.{IsHashFunction}
use Rattle.byte_transcript.specs.Transcript.{RoomLaws}
use Rattle.hash_state.specs.declared.held.HashHeld.{HashHeld}
use Rattle.hash_state.specs.Rules.{hash_held, room, can_be_held, after_append, with_output, sample_of}
use Rattle.hasher.specs.declared.TheConstants.{LONGEST_DIGEST}

module _ {n : ℕ} (digest : List ℕ → List ℕ) (hashing : IsHashFunction n digest) where
  -- before a sample the input is no longer than a digest
  short : (h : HashHeld) → can_be_held h ≡ true → length (with_output digest h).input ≤ LONGEST_DIGEST
  short h ok =
      cond_both (length h.outputs == 0) (hash_held (digest h.input) (digest h.input)) h (λ g. length g.input ≤ LONGEST_DIGEST)
      (λ e. let s = hashing.size h.input in let m = hashing.most in omega arith)
      (λ e.
      ⊎_elim (λ t. let z = both_ways (length h.outputs == 0) e t in absurd z)
      (λ t. leb-true (length h.input) LONGEST_DIGEST t)
      (or_cases (length h.outputs == 0) (nat_le (length h.input) LONGEST_DIGEST) ok))

  pub room-laws : RoomLaws can_be_held (λ h b. after_append h (b ∷ [])) (λ h. (sample_of digest h).left) room
  room-laws = record {
    lowers = λ h b. let e = length-append h.input (b ∷ []) in omega arith;
    room_after_draw = λ h ok. let l = short h ok in omega arith;
  }

  pub after_draw-held : (h : HashHeld) → can_be_held h ≡ true → can_be_held (sample_of digest h).left ≡ true
  after_draw-held h ok = or_right (length (sample_of digest h).left.outputs == 0) (nat_le (length (with_output digest h).input) LONGEST_DIGEST) (le-leb (length (with_output digest h).input) LONGEST_DIGEST (short h ok))
