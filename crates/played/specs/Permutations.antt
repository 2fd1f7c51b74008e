-- The permutation that a line names.
use Rattle.std.specs.Prelude.{ℕ, List, None, Option, reverse}
use Rattle.refusal.specs.declared.Refusal.{Refusal}
use Rattle.domain.specs.Arithmetic.{Arithmetic}
use Rattle.permutation.specs.Ladder.{rounds_no, ladder_rounds}
use Rattle.script.specs.declared.PermutationName.{PermutationName}
use Rattle.script.specs.declared.PermutationName.TheVariants.{Mirror as MirrorNamed, Ladder as LadderNamed}

-- the question of making it
abbrev pub named_no : PermutationName → Option Refusal
named_no MirrorNamed = None
named_no (LadderNamed r) = rounds_no r

module _ {order : ℕ} (d : Arithmetic order) where
  -- what a name stands for
  abbrev pub named_image : PermutationName → List ℕ → List ℕ
  named_image MirrorNamed = reverse
  named_image (LadderNamed r) = ladder_rounds d r
