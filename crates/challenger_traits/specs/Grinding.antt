-- Check and grind, through the meanings of observing, of drawing bits and of where a check starts.
use Rattle.std.specs.Prelude.{◌≡◌, ℕ, zero, suc, ◌+◌, ◌<◌, ◌≤◌, ◌⊎◌, Bool, true, false, List, [], ◌∷◌, Ok, Err, Result, ◌==◌, nat_le, nat_lt, if◌then◌else◌, IsTrue, IsFalse}
use Rattle.refusal.specs.declared.Refusal.{Refusal}
use Rattle.refusal.specs.declared.Refusal.TheVariants.{Bits, Budget, NotCode, NoWitness}
use Rattle.challenger_traits.specs.Meaning.{Reply, reply, reply_if_passed, Drawing, bits_fit}

-- what check and grind stand on: what an observe leaves or refuses, drawing bits, and where a check starts
pub record Means (Held : Type 0) : Type 0 where
  pub after_observe : Held → List ℕ → Result Held Refusal
  pub drawing : Drawing Held
  pub check_start : Held → Held

-- the meaning that a make gives
abbrev pub at_make : {Make Held : Type 0} → (Make → Held → List ℕ → Result Held Refusal) → (Make → Drawing Held) → (Make → Held → Held) → Make → Means Held
at_make o d s k = record { after_observe = o k; drawing = d k; check_start = s k }

-- the least number below n that passes, or n
unfoldable pub first : (ℕ → Bool) → ℕ → ℕ
first p zero = zero
first p (suc n) = if nat_lt (first p n) n then first p n else if p n then n else suc n

abbrev pub says_yes : Result Bool Refusal → Bool
says_yes (Ok v) = v
says_yes (Err e) = false

-- a check is refused for its bits, or for a witness that is no code, and for nothing else
abbrev pub CheckRefused : ℕ → ℕ → ℕ → Refusal → Type 0
CheckRefused order b w e = (IsFalse (bits_fit order b) × (e ≡ Bits)) ⊎ (IsTrue (bits_fit order b) × IsFalse (nat_lt w order) × (e ≡ NotCode))

module _ {Held : Type 0} (m : Means Held) where
  -- the witness was observed where a check starts: are the bits drawn next 0?
  abbrev pub check_after_observe : Result Held Refusal → Held → ℕ → Reply (Result Bool Refusal) Held
  check_after_observe (Ok g) h b = reply (Ok (m.drawing.value g b == 0)) (m.drawing.after g b)
  check_after_observe (Err e) h b = reply (Err e) h

  -- a check of b bits; at bits 0 it says yes and moves nothing
  unfoldable pub check_of : Held → ℕ → ℕ → Reply (Result Bool Refusal) Held
  check_of h b w =
      reply_if_passed (bits_fit m.drawing.order b) Bits h
      (if b == 0 then reply (Ok true) h else reply_if_passed (nat_lt w m.drawing.order) NotCode h
      (check_after_observe (m.after_observe (m.check_start h) (w ∷ [])) h b))

  -- does a check in this place accept the code?
  abbrev pub accepts : Held → ℕ → ℕ → Bool
  accepts h b w = says_yes (check_of h b w).said

  -- the search ended at w: below the budget n, it is the witness
  abbrev pub search_reply : Held → ℕ → ℕ → ℕ → Reply (Result (ℕ × ℕ) Refusal) Held
  search_reply h b n w =
      if nat_lt w n then reply (Ok (w, w + 1)) (check_of h b w).left else reply (Err (NoWitness n)) h

  -- a grind of b bits within the budget n; at bits 0 it gives 0 after 0 trials and moves nothing
  unfoldable pub grind_of : Held → ℕ → ℕ → Reply (Result (ℕ × ℕ) Refusal) Held
  grind_of h b n =
      reply_if_passed (bits_fit m.drawing.order b) Bits h
      (if b == 0 then reply (Ok (0, 0)) h else reply_if_passed (nat_le n m.drawing.order) Budget h
      (search_reply h b n (first (accepts h b) n)))

  -- no code below n is accepted by a check in this place
  abbrev pub NoneBelow : Held → ℕ → ℕ → Type 0
  NoneBelow h b n = (k : ℕ) → k < n → IsFalse (accepts h b k)

  -- least witness: what a grind says and leaves, one of two ways
  pub data Least (h : Held) (b n : ℕ) (r : Reply (Result (ℕ × ℕ) Refusal) Held) : Type 0 where
    -- no code below the budget is accepted: refused, with the budget as trials, and nothing moved
    refused : NoneBelow h b n → r ≡ reply (Err (NoWitness n)) h → Least h b n r
    -- the least code that is accepted, with one trial more than it, and what its check leaves
    passed : (w : ℕ) → w < n → IsTrue (accepts h b w) → NoneBelow h b w → r ≡ reply (Ok (w, w + 1)) (check_of h b w).left → Least h b n r

  -- of a grind of a bit or more that passes its argument questions
  abbrev pub LeastWitness : Held → ℕ → ℕ → Reply (Result (ℕ × ℕ) Refusal) Held → Type 0
  LeastWitness h b n r = IsTrue (bits_fit m.drawing.order b) → 1 ≤ b → n ≤ m.drawing.order → Least h b n r
