use Rattle.std.proofs.Common.{◌≡◌, drop}
use Rattle.domain.specs.Codes.{all_codes}
use Rattle.domain.proofs.codes.all_codes.Given as goal

abbrev pub invariant-loop-c : goal.invariant-loop-c
invariant-loop-c g l = all_codes g.row.ORDER (drop l.c-index l.codes) ≡ all_codes g.row.ORDER l.codes
