-- The digest that a line asks for.
use Rattle.std.specs.Prelude.{ℕ, List}
use Rattle.script.specs.declared.HasherName.{HasherName}
use Rattle.hashers.specs.Choice.{digest_of}
use Rattle.played.specs.Hashers.{named_hasher}

abbrev pub named_digest : HasherName → List ℕ → List ℕ
named_digest name = digest_of (named_hasher name)
