-- Proof only, not to be read to believe a contract: bytes that fit and draws lead to values that can be held, and transcripts that mean the same observe bytes, draw words and find a candidate alike.
use Rattle.std.specs.Prelude.{◌≡◌, ℕ, ◌≤◌, Bool, true, List, [], ◌∷◌, length, Ok, Err, None, ◌==◌, bit_and, nat_le, if◌then◌else◌, IsTrue, refl}
use Rattle.std.proofs.Common.{sym, ap, ◌∙◌, arith}
use Rattle.std.proofs.lemmas.Bool.{leb-true, cond-true, cond-false, cond_both}
use Rattle.refusal.specs.declared.Refusal.TheVariants.{Room}
use Rattle.challenger_traits.specs.Grinding.{first}
use Rattle.challenger_traits.specs.SameMeansProofs.{first_same}
use Rattle.byte_transcript.specs.Transcript.{Transcript, StaysHeld, le_word, le_bytes, candidate_count, found_below, after_bytes, fits, after_observe_bytes, word, after_word, passes, least_candidate}
use Rattle.byte_transcript.specs.SameTranscript.{SameTranscript}

pub same_transcript : {Held : Type 0} (m : Transcript Held) → SameTranscript m m
same_transcript m = record { after_byte = λ h b ok. refl; byte = λ h ok. refl; after_draw = λ h ok. refl; digest = λ h ok. refl; room = λ h ok. refl }

-- what follows where a test passes is the same
if_passed : {A : Type 0} (b : Bool) {x y : A} (z : A) → (b ≡ true → x ≡ y) → (if b then x else z) ≡ (if b then y else z)
if_passed b {x} {y} z e = cond_both b x z (λ r. r ≡ (if b then y else z)) (λ t. e t ∙ sym (cond-true b y z t)) (λ f. sym (cond-false b y z f))

module _ {Held : Type 0} (m : Transcript Held) (stays : StaysHeld m) where
  pub bytes-held : (bs : List ℕ) (h : Held) → IsTrue (m.can_be_held h) → length bs ≤ m.room h → IsTrue (m.can_be_held (after_bytes m h bs))
  bytes-held [] h ok few = ok
  bytes-held (b ∷ bs) h ok few =
      let low = m.laws.lowers h b in
      bytes-held bs (m.after_byte h b) (stays.after_byte h b ok (omega arith)) (omega arith)

  pub observed-held : (bs : List ℕ) (h g : Held) → IsTrue (m.can_be_held h) → after_observe_bytes m h bs ≡ Ok g → IsTrue (m.can_be_held g)
  observed-held bs h g ok =
      cond_both (fits m h bs) _ _ (λ r. r ≡ Ok g → IsTrue (m.can_be_held g))
      (λ f e. let held = bytes-held bs h ok (leb-true (length bs) (m.room h) f) in cc)
      (λ f e. absurd cc)

  pub word-held : (h : Held) → IsTrue (m.can_be_held h) → IsTrue (m.can_be_held (after_word m h))
  word-held h ok =
      let drawn = stays.after_draw in
      drawn _ (drawn _ (drawn _ (drawn h ok)))

module _ {Held : Type 0} (m n : Transcript Held) (stays : StaysHeld m) (same : SameTranscript m n) where
  pub bytes-same : (bs : List ℕ) (h : Held) → IsTrue (m.can_be_held h) → length bs ≤ m.room h → after_bytes m h bs ≡ after_bytes n h bs
  bytes-same [] h ok few = refl
  bytes-same (b ∷ bs) h ok few =
      let low = m.laws.lowers h b in
      bytes-same bs (m.after_byte h b) (stays.after_byte h b ok (omega arith)) (omega arith) ∙ ap (λ g. after_bytes n g bs) (same.after_byte h b ok)

  pub observed-same : (h : Held) (bs : List ℕ) → IsTrue (m.can_be_held h) → after_observe_bytes m h bs ≡ after_observe_bytes n h bs
  observed-same h bs ok =
      if_passed (fits m h bs) (Err Room) (λ f. ap Ok (bytes-same bs h ok (leb-true (length bs) (m.room h) f)))
      ∙ ap (λ r. if nat_le (length bs) r then Ok (after_bytes n h bs) else Err Room) (same.room h ok)

  -- of equal values a draw leaves the same
  next : (h g : Held) → IsTrue (m.can_be_held h) → h ≡ g → m.after_draw h ≡ n.after_draw g
  next h g ok e = same.after_draw h ok ∙ ap n.after_draw e

  -- and gives the same byte
  drawn : (h g : Held) → IsTrue (m.can_be_held h) → h ≡ g → m.byte h ≡ n.byte g
  drawn h g ok e = same.byte h ok ∙ ap n.byte e

  module _ (h : Held) (ok : IsTrue (m.can_be_held h)) where
    ok₁ : IsTrue (m.can_be_held (m.after_draw h))
    ok₁ = stays.after_draw h ok

    ok₂ : IsTrue (m.can_be_held (m.after_draw (m.after_draw h)))
    ok₂ = stays.after_draw (m.after_draw h) ok₁

    ok₃ : IsTrue (m.can_be_held (m.after_draw (m.after_draw (m.after_draw h))))
    ok₃ = stays.after_draw (m.after_draw (m.after_draw h)) ok₂

    e₁ : m.after_draw h ≡ n.after_draw h
    e₁ = same.after_draw h ok

    e₂ : m.after_draw (m.after_draw h) ≡ n.after_draw (n.after_draw h)
    e₂ = next (m.after_draw h) (n.after_draw h) ok₁ e₁

    e₃ : m.after_draw (m.after_draw (m.after_draw h)) ≡ n.after_draw (n.after_draw (n.after_draw h))
    e₃ = next (m.after_draw (m.after_draw h)) (n.after_draw (n.after_draw h)) ok₂ e₂

    pub word-same : word m h ≡ word n h
    unfolding word
    word-same =
        ap (λ b. le_word (b ∷ m.byte (m.after_draw h) ∷ m.byte (m.after_draw (m.after_draw h)) ∷ m.byte (m.after_draw (m.after_draw (m.after_draw h))) ∷ [])) (same.byte h ok)
        ∙ ap (λ b. le_word (n.byte h ∷ b ∷ m.byte (m.after_draw (m.after_draw h)) ∷ m.byte (m.after_draw (m.after_draw (m.after_draw h))) ∷ [])) (drawn (m.after_draw h) (n.after_draw h) ok₁ e₁)
        ∙ ap (λ b. le_word (n.byte h ∷ n.byte (n.after_draw h) ∷ b ∷ m.byte (m.after_draw (m.after_draw (m.after_draw h))) ∷ [])) (drawn (m.after_draw (m.after_draw h)) (n.after_draw (n.after_draw h)) ok₂ e₂)
        ∙ ap (λ b. le_word (n.byte h ∷ n.byte (n.after_draw h) ∷ n.byte (n.after_draw (n.after_draw h)) ∷ b ∷ [])) (drawn (m.after_draw (m.after_draw (m.after_draw h))) (n.after_draw (n.after_draw (n.after_draw h))) ok₃ e₃)

    pub after_word-same : after_word m h ≡ after_word n h
    after_word-same = next (m.after_draw (m.after_draw (m.after_draw h))) (n.after_draw (n.after_draw (n.after_draw h))) ok₃ e₃

  module _ (h : Held) (ok : IsTrue (m.can_be_held h)) (mask : ℕ) where
    passes-same : 4 ≤ m.room h → (c : ℕ) → passes m h mask c ≡ passes n h mask c
    passes-same roomy c =
        ap (λ w. bit_and w mask == 0) (word-same (after_bytes m h (le_bytes c)) (bytes-held m stays (le_bytes c) h ok roomy)
        ∙ ap (word n) (bytes-same (le_bytes c) h ok roomy))

    pub candidate-same : (k : ℕ) → least_candidate m h k mask ≡ least_candidate n h k mask
    candidate-same k =
        if_passed (nat_le 4 (m.room h)) None (λ r. ap (found_below (candidate_count k))
        (first_same (passes m h mask) (passes n h mask) (passes-same (leb-true 4 (m.room h) r)) (candidate_count k)))
        ∙ ap (λ r. if nat_le 4 r then found_below (candidate_count k) (first (passes n h mask) (candidate_count k)) else None) (same.room h ok)
