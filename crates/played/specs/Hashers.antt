-- The hash function that a line names.
use Rattle.script.specs.declared.HasherName.{HasherName}
use Rattle.script.specs.declared.HasherName.TheVariants.{Sha256 as Sha256Named, Sha3_256 as «Sha3_256Named»}
use Rattle.hashers.specs.declared.Hasher.{Hasher}
use Rattle.hashers.specs.declared.Hasher.TheVariants.{Sha256, Sha3_256}

abbrev pub named_hasher : HasherName → Hasher
named_hasher Sha256Named = Sha256
named_hasher «Sha3_256Named» = Sha3_256
