-- A choice among the permutations: it does what the chosen one does.
use Rattle.std.specs.Prelude.{ℕ, List, reverse}
use Rattle.domain.specs.Arithmetic.{Arithmetic}
use Rattle.permutation.specs.Rows.{IsLawful}
use Rattle.permutation.specs.Ladder.{ladder_rounds}
use Rattle.permutation.specs.LadderProofs.{ladder_lawful}
use Rattle.permutation.specs.MirrorProofs.{mirror_lawful}
use Rattle.permutation.specs.declared.choice.Permutation.{Permutation}
use Rattle.permutation.specs.declared.choice.Permutation.TheVariants.{Mirror, Ladder}

module _ {order : ℕ} (d : Arithmetic order) where
  abbrev pub image : Permutation → List ℕ → List ℕ
  image (Mirror m) = reverse
  image (Ladder l) = ladder_rounds d l.rounds

  abbrev pub lawful : (p : Permutation) → IsLawful order (image p)
  lawful (Mirror m) = mirror_lawful order
  lawful (Ladder l) = ladder_lawful d l.rounds l.few
