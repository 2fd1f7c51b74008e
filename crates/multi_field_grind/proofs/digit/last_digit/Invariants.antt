use Rattle.std.proofs.Common.{◌≡◌, ℕ, ◌+◌}
use Rattle.sponge.specs.Sponge.{last_output}
use Rattle.packing.specs.Packing.{digits_of}
use Rattle.multi_field_grind.proofs.digit.last_digit.Given as goal

abbrev pub invariant-loop : goal.invariant-loop
invariant-loop g l = (m : ℕ) → m + l.counter ≡ l.digits → last_output (digits_of g.row.SAMPLED (m + 1) l.rest) ≡ last_output (digits_of g.row.SAMPLED l.digits l.word)
