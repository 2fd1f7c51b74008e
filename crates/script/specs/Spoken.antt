-- Why a line cannot be read, in words, as bytes.
use Rattle.std.specs.Prelude.{ℕ, List, ◌++◌, Some, Option, codes}
use Rattle.std.specs.Option.{option_map}
use Rattle.std.specs.Fmt.{debug_str}
use Rattle.script.specs.declared.Fault.{Fault}
use Rattle.script.specs.declared.Fault.TheVariants.{Spacing, UnknownCall, UnknownChallenger, UnknownTranscript, UnknownDomain, UnknownPermutation, UnknownHasher, NotNumber, NotHex, TooFew, TooMany, Memory}

-- a sentence that ends with the word in quotes; of a word that is not ASCII it says nothing
abbrev pub quoting : List ℕ → List ℕ → Option (List ℕ)
quoting sentence word = option_map (λ quoted. sentence ++ quoted) (debug_str word)

abbrev pub fault_words : Fault → Option (List ℕ)
fault_words Spacing = Some (codes "words are separated by one space")
fault_words (UnknownCall word) = quoting (codes "there is no call ") word.now
fault_words (UnknownChallenger word) = quoting (codes "there is no challenger ") word.now
fault_words (UnknownTranscript word) = quoting (codes "there is no byte transcript ") word.now
fault_words (UnknownDomain word) = quoting (codes "there is no domain ") word.now
fault_words (UnknownPermutation word) = quoting (codes "there is no permutation ") word.now
fault_words (UnknownHasher word) = quoting (codes "there is no hash function ") word.now
fault_words (NotNumber word) = quoting (codes "this is no decimal number below 2^64: ") word.now
fault_words (NotHex word) = quoting (codes "these are no pairs of hex digits: ") word.now
fault_words TooFew = Some (codes "a word is missing")
fault_words TooMany = Some (codes "there are more words than the call takes")
fault_words Memory = Some (codes "there is not enough memory")
