-- The rule that whatever has the interface shares: observing, drawing bits, check and grind.
use Rattle.std.specs.Prelude.{◌≡◌, ◌⊎◌, List, ◌∷◌}
use Rattle.refusal.specs.declared.Refusal.TheVariants.{Bits, NotCode}
use Rattle.challenger_traits.specs.Meaning.{observe_of, bits_of}
use Rattle.challenger_traits.specs.Grinding.{Means, check_of, grind_of}
use Rattle.runs.specs.declared.call.Call.{Call}
use Rattle.runs.specs.declared.call.Call.TheVariants.{Observe, SampleBits, CheckWitness, Grind}
use Rattle.runs.specs.declared.answer.Answer.{Answer}
use Rattle.runs.specs.declared.answer.Answer.TheVariants.{Refused}
use Rattle.runs.specs.Answers.{as_done, as_bits, as_checked, as_ground, answer_reply}
use Rattle.runs.specs.Runs.{Rule}

-- these four by what observing, drawing bits and the start of a check mean; any other call by the challenger's own rule
abbrev pub interface_rule : {Held : Type 0} → Means Held → Rule Held → Rule Held
interface_rule m own h (Observe xs) = answer_reply as_done (observe_of (m.after_observe h xs.now) h)
interface_rule m own h (SampleBits b) = answer_reply as_bits (bits_of m.drawing h b)
interface_rule m own h (CheckWitness b w) = answer_reply as_checked (check_of m h b w)
interface_rule m own h (Grind b n) = answer_reply as_ground (grind_of m h b n)
interface_rule m own h c = own h c

-- a check is refused by the question on its bits or by the one on its witness, 20 and 23, and by no other
abbrev pub RefusedAsChecksAre : Call → Answer → Type 0
RefusedAsChecksAre (CheckWitness b w) (Refused e) = (e ≡ Bits) ⊎ (e ≡ NotCode)
RefusedAsChecksAre _ _ = Unit {0}

-- so is each check among these calls that got an answer
abbrev pub EachRefusedAsChecksAre : List Call → List Answer → Type 0
EachRefusedAsChecksAre (c ∷ cs) (a ∷ xs) = RefusedAsChecksAre c a × EachRefusedAsChecksAre cs xs
EachRefusedAsChecksAre _ _ = Unit {0}
