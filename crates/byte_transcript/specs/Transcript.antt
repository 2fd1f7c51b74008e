-- What a byte transcript means, over any type `Held` of held values.
use Rattle.std.specs.Prelude.{ℕ, ◌+◌, ◌*◌, ◌/◌, ◌%◌, ◌≤◌, Bool, List, [], ◌∷◌, length, Some, None, Ok, Err, Option, Result, ◌==◌, bit_and, nat_le, nat_lt, if◌then◌else◌, IsTrue}
use Rattle.refusal.specs.declared.Refusal.{Refusal}
use Rattle.refusal.specs.declared.Refusal.TheVariants.{Room}
use Rattle.challenger_traits.specs.Grinding.{first}
use Rattle.byte_transcript.specs.declared.trial.TheConstants.{MOST_CANDIDATES}

-- the laws of the room, on the values that can be held
pub record RoomLaws {Held : Type 0} (can_be_held : Held → Bool) (after_byte : Held → ℕ → Held) (after_draw : Held → Held) (room : Held → ℕ) : Type 0 where
  -- observing a byte lowers the room by at most one, so observing n bytes by at most n
  pub lowers : (h : Held) (b : ℕ) → room h ≤ room (after_byte h b) + 1
  -- after a draw the room is at least 8: a check draws a byte first, and then the four bytes of a witness fit
  pub room_after_draw : (h : Held) → IsTrue (can_be_held h) → 8 ≤ room (after_draw h)

-- which values can be held, what observing a byte leaves, the byte drawn and what that leaves, the digest at the end, the room; with the laws
pub record Transcript (Held : Type 0) : Type 0 where
  pub can_be_held : Held → Bool
  pub after_byte : Held → ℕ → Held
  pub byte : Held → ℕ
  pub after_draw : Held → Held
  pub digest : Held → List ℕ
  pub room : Held → ℕ
  pub laws : RoomLaws can_be_held after_byte after_draw room

-- observing a byte and drawing one lead from values that can be held to others
pub record StaysHeld {Held : Type 0} (m : Transcript Held) : Type 0 where
  pub after_byte : (h : Held) (b : ℕ) → IsTrue (m.can_be_held h) → 1 ≤ m.room h → IsTrue (m.can_be_held (m.after_byte h b))
  pub after_draw : (h : Held) → IsTrue (m.can_be_held h) → IsTrue (m.can_be_held (m.after_draw h))

-- the word of the first four bytes, least significant first; 0 of fewer
abbrev pub le_word : List ℕ → ℕ
le_word (a ∷ b ∷ c ∷ d ∷ rest) = a + b * 256 + c * 65536 + d * 16777216
le_word _ = 0

-- a number as four bytes, least significant first
abbrev pub le_bytes : ℕ → List ℕ
le_bytes x = (x % 256) ∷ (x / 256 % 256) ∷ (x / 65536 % 256) ∷ (x / 16777216 % 256) ∷ []

-- a number of candidates above the most counts as the most
abbrev pub candidate_count : ℕ → ℕ
candidate_count n = if nat_lt n MOST_CANDIDATES then n else MOST_CANDIDATES

-- the number, if it is below the end
abbrev pub found_below : ℕ → ℕ → Option ℕ
found_below end w = if nat_lt w end then Some w else None

module _ {Held : Type 0} (m : Transcript Held) where
  -- all bytes of a list, in turn
  abbrev pub after_bytes : Held → List ℕ → Held
  after_bytes h [] = h
  after_bytes h (b ∷ bs) = after_bytes (m.after_byte h b) bs

  -- do they fit in the room left?
  abbrev pub fits : Held → List ℕ → Bool
  fits h bs = nat_le (length bs) (m.room h)

  -- what observing bytes leaves, or its refusal
  abbrev pub after_observe_bytes : Held → List ℕ → Result Held Refusal
  after_observe_bytes h bs = if fits h bs then Ok (after_bytes h bs) else Err Room

  -- the word of the next four bytes, and what drawing them leaves
  unfoldable pub word : Held → ℕ
  word h = le_word (m.byte h ∷ m.byte (m.after_draw h) ∷ m.byte (m.after_draw (m.after_draw h)) ∷ m.byte (m.after_draw (m.after_draw (m.after_draw h))) ∷ [])

  abbrev pub after_word : Held → Held
  after_word h = m.after_draw (m.after_draw (m.after_draw (m.after_draw h)))

  -- does a copy that observes the candidate's bytes and then draws a word have a masked word of 0?
  abbrev pub passes : Held → ℕ → ℕ → Bool
  passes h mask c = bit_and (word (after_bytes h (le_bytes c))) mask == 0

  -- the least candidate that passes, or none; none also where its bytes do not fit
  abbrev pub least_candidate : Held → ℕ → ℕ → Option ℕ
  least_candidate h n mask = if nat_le 4 (m.room h) then found_below (candidate_count n) (first (passes h mask) (candidate_count n)) else None
