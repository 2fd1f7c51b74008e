-- Runs of calls, and how a verifier repeats a prover's.
use Rattle.std.specs.Prelude.{◌≡◌, ℕ, Bool, true, ◌&&◌, List, [], ◌∷◌, ◌++◌, length, Some, None, Option, ◌==◌, IsTrue}
use Rattle.challenger_traits.specs.Meaning.{Reply, reply}
use Rattle.runs.specs.declared.call.Call.{Call}
use Rattle.runs.specs.declared.call.Call.TheVariants.{CheckWitness, Grind}
use Rattle.runs.specs.declared.answer.Answer.{Answer}
use Rattle.runs.specs.declared.answer.Answer.TheVariants.{Checked, Ground}

-- what each call says and leaves, on the present value
abbrev pub Rule : Type 0 → Type 0
Rule Held = Held → Call → Reply Answer Held

-- a grind, or another call
pub data Kind : Call → Type 0 where
  grinding : (b n : ℕ) → Kind (Grind b n)
  other : (c : Call) → Kind c

abbrev pub kind : (c : Call) → Kind c
kind (Grind b n) = grinding b n
kind c = other c

-- the witness of a passed grind
abbrev pub witness : Answer → Option ℕ
witness (Ground w t) = Some w
witness _ = None

-- one end of a run: what it held before, how it was answered, what it holds after
pub record Party (Held : Type 0) : Type 0 where
  pub before : Held
  pub answered : List Answer
  pub after : Held

abbrev pub party : {Held : Type 0} → Held → List Answer → Held → Party Held
party before answered after = record { before = before; answered = answered; after = after }

module _ {Held : Type 0} (rule : Rule Held) where
  -- a check in a grind's place, by the grind's witness, and what the grind left
  abbrev pub Stands : Held → ℕ → Option ℕ → Held → Type 0
  Stands h b (Some w) left = rule h (CheckWitness b w) ≡ reply (Checked true) left
  Stands h b None left = left ≡ h

  abbrev pub ChecksStand : Type 0
  ChecksStand = (h : Held) (b n : ℕ) → Stands h b (witness (rule h (Grind b n)).said) (rule h (Grind b n)).left

  -- the answers of a list of calls, each on the value that the one before left, and the value at the end
  abbrev pub answers : Held → List Call → List Answer
  answers h [] = []
  answers h (c ∷ cs) = (rule h c).said ∷ answers (rule h c).left cs

  abbrev pub value_after : Held → List Call → Held
  value_after h [] = h
  value_after h (c ∷ cs) = value_after (rule h c).left cs

  -- every value that the calls meet can be held
  abbrev pub CanBeHeldAlong : (Held → Bool) → Held → List Call → Type 0
  CanBeHeldAlong can_be_held h [] = IsTrue (can_be_held h)
  CanBeHeldAlong can_be_held h (c ∷ cs) = IsTrue (can_be_held h) × CanBeHeldAlong can_be_held (rule h c).left cs

  -- a run: the party was answered each of these calls by the rule, and was left with what the last one left
  pub record Run (calls : List Call) (p : Party Held) : Type 0 where
    pub said : p.answered ≡ answers p.before calls
    pub left : p.after ≡ value_after p.before calls

-- what the verifier calls in the place of a call, given the prover's answer
abbrev pub for_grind : ℕ → Option ℕ → List Call
for_grind b (Some w) = CheckWitness b w ∷ []
for_grind b None = []

abbrev pub calls_instead : {c : Call} → Kind c → Answer → List Call
calls_instead (grinding b n) a = for_grind b (witness a)
calls_instead (other c) a = c ∷ []

abbrev pub repeated_calls : List Call → List Answer → List Call
repeated_calls [] xs = []
repeated_calls (c ∷ cs) [] = []
repeated_calls (c ∷ cs) (a ∷ xs) = calls_instead (kind c) a ++ repeated_calls cs xs

-- the prover's calls and answers, and the verifier's that repeat them
pub data Repeats : List Call → List Answer → List Call → List Answer → Type 0 where
  ended : Repeats [] [] [] []
  -- a call that is no grind is repeated, and answered alike, refused or not
  again : (c : Call) (a : Answer) {cs ds : List Call} {xs ys : List Answer} → kind c ≡ other c → Repeats cs xs ds ys → Repeats (c ∷ cs) (a ∷ xs) (c ∷ ds) (a ∷ ys)
  -- a passed grind's witness is checked in its place, and the check says yes
  checked : (b n w : ℕ) (a : Answer) {cs ds : List Call} {xs ys : List Answer} → witness a ≡ Some w → Repeats cs xs ds ys
      → Repeats (Grind b n ∷ cs) (a ∷ xs) (CheckWitness b w ∷ ds) (Checked true ∷ ys)
  -- a refused grind is left out
  skipped : (b n : ℕ) (a : Answer) {cs ds : List Call} {xs ys : List Answer} → witness a ≡ None → Repeats cs xs ds ys → Repeats (Grind b n ∷ cs) (a ∷ xs) ds ys

-- on what can be held, each call means the same by both rules
abbrev pub SameRules : {Held : Type 0} → (Held → Bool) → Rule Held → Rule Held → Type 0
SameRules {Held} can_be_held prover verifier = (h : Held) (c : Call) → IsTrue (can_be_held h) → prover h c ≡ verifier h c

-- agreement: the verifier repeated the prover's calls and was answered alike, and both hold the same
pub record Agree {Held : Type 0} (calls : List Call) (prover verifier : Party Held) : Type 0 where
  pub repeats : Repeats calls prover.answered (repeated_calls calls prover.answered) verifier.answered
  pub same_held : verifier.after ≡ prover.after

-- do the places for answers number as many as the calls?
abbrev pub has_places : List Call → List Answer → List Answer → Bool
has_places calls proved said = length proved == length calls && length said == length calls

abbrev pub as_list : {X : Type 0} → Option X → List X
as_list None = []
as_list (Some x) = x ∷ []
