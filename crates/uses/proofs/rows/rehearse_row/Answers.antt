use Rattle.std.proofs.Common.{◌≡◌, ℕ, List, Ok, Err, Option, Result, IfOk, IfErr, subst}
use Rattle.challengers.specs.Refusal.{Refusal}
use Rattle.challengers.specs.Permutation.{Permutation}
use Rattle.challengers.specs.Parameters.{Parameters}
use Rattle.challengers.specs.DuplexHeld.{DuplexHeld}
use Rattle.challengers.specs.DuplexRules.{means, fresh_value}
use Rattle.uses.specs.BabyBear.{baby_bear_sponge}
use Rattle.uses.specs.Witness.{row_after_witness, checked_row}
use Rattle.uses.proofs.rows.rehearse_row.Goals as goal

-- what each end says, of what making fixed and what is held
abbrev proved : List ℕ → Parameters Permutation → DuplexHeld → Result (ℕ × ℕ) Refusal
proved numbers k h = (row_after_witness (means (baby_bear_sponge k)) h numbers 8 10000 10).said

abbrev checked : List ℕ → ℕ → Parameters Permutation → DuplexHeld → Result (Option ℕ) Refusal
checked numbers w k h = (checked_row (means (baby_bear_sponge k)) h numbers 8 w 10).said

-- what holds of the make and the value of an end that was just made, holds of what making gives
module _ {k l : Parameters Permutation} {h : DuplexHeld} (made : k ≡ l) (holds : h ≡ fresh_value (baby_bear_sponge k)) (fact : Parameters Permutation → DuplexHeld → Type 0) where
  fresh : fact k h → fact l (fresh_value (baby_bear_sponge l))
  fresh x = subst (λ m. fact m (fresh_value (baby_bear_sponge m))) made (subst (fact k) holds x)

pub returns-clause-proved : goal.returns-clause-proved
returns-clause-proved c =
    let end = c.in_ok-ends.ensures.1.0 in
    fresh end.make_is end.holds (λ k h. IfOk c.rehearse.result (λ s. proved c.args.numbers.now k h ≡ Ok (s.witness, s.row))) c.rehearse.ensures.proved

pub returns-clause-refused : goal.returns-clause-refused
returns-clause-refused c =
    let end = c.in_ok-ends.ensures.1.0 in
    fresh end.make_is end.holds (λ k h. IfErr c.rehearse.result (λ e. proved c.args.numbers.now k h ≡ Err e)) c.rehearse.ensures.refused

pub returns-clause-checked : goal.returns-clause-checked
returns-clause-checked c =
    let end = c.in_ok-ends.ensures.1.0 in
    fresh end.make_is end.holds (λ k h. IfOk c.rehearse.result (λ s. checked c.args.numbers.now s.witness k h ≡ Ok s.again)) c.rehearse.ensures.checked
