-- Proof only, not to be read to believe a contract: in whatever has the interface a check stands in a grind's place, what is lent is read wherever it lies, and calls mean the same where their meanings and the other calls do.
use Rattle.std.specs.Prelude.{ℕ, Bool, Ok, Err, Result, refl}
use Rattle.std.proofs.Common.{ap}
use Rattle.refusal.specs.declared.Refusal.{Refusal}
use Rattle.challenger_traits.specs.Grinding.{Means, grind_of}
use Rattle.challenger_traits.specs.GrindingProofs.{InPlace, grind_in_place}
use Rattle.challenger_traits.specs.SameMeansProofs.{SameMeans, observe-same, bits-same, check-same, grind-same}
use Rattle.runs.specs.declared.call.Call.TheVariants.{Observe, SampleBits, CheckWitness, Grind}
use Rattle.runs.specs.Answers.{as_done, as_bits, as_checked, as_ground, answer_reply}
use Rattle.runs.specs.Runs.{Rule, Stands, ChecksStand, witness, SameRules}
use Rattle.runs.specs.Lent.{ReadsNumbers}
use Rattle.runs.specs.Interface.{interface_rule}

module _ {Held : Type 0} (m : Means Held) (own : Rule Held) where
  by_said : (h : Held) (b : ℕ) (s : Result (ℕ × ℕ) Refusal) (left : Held) → InPlace m h b s left → Stands (interface_rule m own) h b (witness (as_ground s)) left
  by_said h b (Ok p) left e = ap (answer_reply as_checked) e
  by_said h b (Err x) left e = e

  pub interface_stands : ChecksStand (interface_rule m own)
  interface_stands h b n = by_said h b (grind_of m h b n).said (grind_of m h b n).left (grind_in_place m h b n)

  pub interface_reads : ReadsNumbers own → ReadsNumbers (interface_rule m own)
  interface_reads reads h (Observe xs) = refl
  interface_reads reads h (SampleBits b) = refl
  interface_reads reads h (CheckWitness b w) = refl
  interface_reads reads h (Grind b n) = refl
  interface_reads reads h c = reads h c

module _ {Held : Type 0} (can_be_held : Held → Bool) (m n : Means Held) (same : SameMeans can_be_held m n) (own other : Rule Held) (same_own : SameRules can_be_held own other) where
  pub interface_same : SameRules can_be_held (interface_rule m own) (interface_rule n other)
  interface_same h (Observe xs) ok = ap (answer_reply as_done) (observe-same can_be_held m n same h xs.now ok)
  interface_same h (SampleBits b) ok = ap (answer_reply as_bits) (bits-same can_be_held m n same h b ok)
  interface_same h (CheckWitness b w) ok = ap (answer_reply as_checked) (check-same can_be_held m n same h b ok w)
  interface_same h (Grind b k) ok = ap (answer_reply as_ground) (grind-same can_be_held m n same h b ok k)
  interface_same h c ok = same_own h c ok
