-- Proof only, not to be read to believe a contract: where observing, drawing bits and the start of a check mean the same on what can be held, so do check and grind.
use Rattle.std.specs.Prelude.{◌≡◌, ℕ, zero, suc, ◌+◌, Bool, true, List, [], ◌∷◌, Ok, Err, Result, ◌==◌, nat_le, nat_lt, if◌then◌else◌, IsTrue, refl}
use Rattle.std.proofs.Common.{ap, ◌∙◌}
use Rattle.refusal.specs.declared.Refusal.{Refusal}
use Rattle.refusal.specs.declared.Refusal.TheVariants.{Bits, Budget, NotCode, NoWitness}
use Rattle.challenger_traits.specs.Meaning.{reply, reply_if_passed, observe_of, bits_fit, bits_of}
use Rattle.challenger_traits.specs.Grinding.{Means, first, says_yes, check_of, check_after_observe, accepts, search_reply, grind_of}

-- the meanings m and n agree on what can be held, and a value that can be held leads to others
pub record SameMeans {Held : Type 0} (can_be_held : Held → Bool) (m n : Means Held) : Type 0 where
  pub order : m.drawing.order ≡ n.drawing.order
  pub observes : (h : Held) (xs : List ℕ) → IsTrue (can_be_held h) → m.after_observe h xs ≡ n.after_observe h xs
  pub observed : (h : Held) (xs : List ℕ) (g : Held) → IsTrue (can_be_held h) → m.after_observe h xs ≡ Ok g → IsTrue (can_be_held g)
  pub value : (h : Held) (b : ℕ) → IsTrue (can_be_held h) → m.drawing.value h b ≡ n.drawing.value h b
  pub after : (h : Held) (b : ℕ) → IsTrue (can_be_held h) → m.drawing.after h b ≡ n.drawing.after h b
  pub start : (h : Held) → IsTrue (can_be_held h) → m.check_start h ≡ n.check_start h
  pub started : (h : Held) → IsTrue (can_be_held h) → IsTrue (can_be_held (m.check_start h))

-- predicates that are equal have one least number
pub first_same : (p q : ℕ → Bool) → ((k : ℕ) → p k ≡ q k) → (n : ℕ) → first p n ≡ first q n
unfolding first
first_same p q e zero = refl
first_same p q e (suc n) =
    let ih = first_same p q e n in
    ap (λ f. if nat_lt f n then f else if p n then n else suc n) ih ∙ ap (λ v. if nat_lt (first q n) n then first q n else if v then n else suc n) (e n)

module _ {Held : Type 0} (can_be_held : Held → Bool) (m n : Means Held) (same : SameMeans can_be_held m n) where
  pub observe-same : (h : Held) (xs : List ℕ) → IsTrue (can_be_held h) → observe_of (m.after_observe h xs) h ≡ observe_of (n.after_observe h xs) h
  observe-same h xs ok = ap (λ r. observe_of r h) (same.observes h xs ok)

  pub bits-same : (h : Held) (b : ℕ) → IsTrue (can_be_held h) → bits_of m.drawing h b ≡ bits_of n.drawing h b
  bits-same h b ok =
      ap (λ o. reply_if_passed (bits_fit o b) Bits h (reply (Ok (m.drawing.value h b)) (m.drawing.after h b))) same.order
      ∙ ap (λ v. reply_if_passed (bits_fit n.drawing.order b) Bits h (reply (Ok v) (m.drawing.after h b))) (same.value h b ok)
      ∙ ap (λ g. reply_if_passed (bits_fit n.drawing.order b) Bits h (reply (Ok (n.drawing.value h b)) g)) (same.after h b ok)

  module _ (h : Held) (b : ℕ) (ok : IsTrue (can_be_held h)) where
    judged : (r : Result Held Refusal) (w : ℕ) → m.after_observe (m.check_start h) (w ∷ []) ≡ r → check_after_observe m r h b ≡ check_after_observe n r h b
    judged (Ok g) w e =
        let fine = same.observed (m.check_start h) (w ∷ []) g (same.started h ok) e in
        ap (λ v. reply (Ok (v == 0)) (m.drawing.after g b)) (same.value g b fine) ∙ ap (λ l. reply (Ok (n.drawing.value g b == 0)) l) (same.after g b fine)
    judged (Err x) w e = refl

    observed-same : (w : ℕ) → check_after_observe m (m.after_observe (m.check_start h) (w ∷ [])) h b ≡ check_after_observe n (n.after_observe (n.check_start h) (w ∷ [])) h b
    observed-same w =
        judged (m.after_observe (m.check_start h) (w ∷ [])) w refl
        ∙ ap (λ r. check_after_observe n r h b) (same.observes (m.check_start h) (w ∷ []) (same.started h ok) ∙ ap (λ g. n.after_observe g (w ∷ [])) (same.start h ok))

    pub check-same : (w : ℕ) → check_of m h b w ≡ check_of n h b w
    unfolding check_of
    check-same w =
        ap (λ o. reply_if_passed (bits_fit o b) Bits h (if b == 0 then reply (Ok true) h else reply_if_passed (nat_lt w o) NotCode h
        (check_after_observe m (m.after_observe (m.check_start h) (w ∷ [])) h b))) same.order
        ∙ ap (λ r. reply_if_passed (bits_fit n.drawing.order b) Bits h (if b == 0 then reply (Ok true) h else reply_if_passed (nat_lt w n.drawing.order) NotCode h r)) (observed-same w)

    accepts-same : (w : ℕ) → accepts m h b w ≡ accepts n h b w
    accepts-same w = ap (λ r. says_yes r.said) (check-same w)

    search-same : (k w : ℕ) → search_reply m h b k w ≡ search_reply n h b k w
    search-same k w = ap (λ r. if nat_lt w k then reply (Ok (w, w + 1)) r.left else reply (Err (NoWitness k)) h) (check-same w)

    pub grind-same : (k : ℕ) → grind_of m h b k ≡ grind_of n h b k
    unfolding grind_of
    grind-same k =
        ap (λ o. reply_if_passed (bits_fit o b) Bits h (if b == 0 then reply (Ok (0, 0)) h else reply_if_passed (nat_le k o) Budget h
        (search_reply m h b k (first (accepts m h b) k)))) same.order
        ∙ ap (λ r. reply_if_passed (bits_fit n.drawing.order b) Bits h (if b == 0 then reply (Ok (0, 0)) h else reply_if_passed (nat_le k n.drawing.order) Budget h r))
        (search-same k (first (accepts m h b) k) ∙ ap (search_reply n h b k) (first_same (accepts m h b) (accepts n h b) accepts-same k))
