-- The answer to a line that does not fit its challenger, as bytes.
use Rattle.std.specs.Prelude.{ℕ, List, codes}
use Rattle.played.specs.declared.dialect.Unfit.{Unfit}
use Rattle.played.specs.declared.dialect.Unfit.TheVariants.{NotBytes, Limit}

abbrev pub unfit_words : Unfit → List ℕ
unfit_words NotBytes = codes "not-bytes"
unfit_words Limit = codes "bad-line"
