-- What is printed of challengers.
use Rattle.std.specs.Prelude.{ℕ, List, codes}
use Rattle.printing.specs.Spoken.{listed, held_words, squeeze_words, hash_words}
use Rattle.duplex_challenger.specs.declared.held.DuplexHeld.{DuplexHeld}
use Rattle.multi_field_challenger.specs.declared.held.MultiHeld.{MultiHeld}
use Rattle.hash_state.specs.declared.held.HashHeld.{HashHeld}

abbrev pub duplex_words : DuplexHeld → List ℕ
duplex_words h = held_words h.row h.pending h.outputs

abbrev pub multi_words : MultiHeld → List ℕ
multi_words h = squeeze_words h.row h.pending h.outputs h.squeeze

abbrev pub hash_held_words : HashHeld → List ℕ
hash_held_words h = hash_words h.input h.outputs

-- the codes of a digest, a space between two
abbrev pub codes_words : List ℕ → List ℕ
codes_words = listed (codes " ")
