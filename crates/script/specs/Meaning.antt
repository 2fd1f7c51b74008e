-- What a line that was read says.
use Rattle.std.specs.Prelude.{◌≡◌, ℕ, ◌⊎◌, List, Some, None, vec_items, Option, Result, MatchResult}
use Rattle.std.specs.Option.{option_map}
use Rattle.script.specs.declared.Fault.{Fault}
use Rattle.script.specs.declared.Fault.TheVariants.{Memory}
use Rattle.script.specs.declared.Rest.{Rest}
use Rattle.script.specs.declared.HasherName.{HasherName}
use Rattle.script.specs.declared.HashParameters.{HashParameters}
use Rattle.script.specs.declared.Line.{Line}
use Rattle.script.specs.declared.Line.TheVariants.{Blank, MakeDuplex, MakeMulti, MakeHash, MakeSerialDuplex, MakeSerialHash, Observe, Digest, Digest64, Sample, Bits, Uniform, Check, Grind, Find, Held, Finalize, HashOf, Helpers}
use Rattle.script.specs.Grammar.{Said, to_blank, to_make_duplex, to_make_multi, to_make_hash, to_make_serial_duplex, to_make_serial_hash, to_observe, to_digest, to_digest64, to_sample, to_bits, to_uniform, to_check, to_grind, to_find, to_held, to_finalize, to_hash_of, to_helpers}

abbrev pub hash_parameters : HashParameters → HasherName × List ℕ
hash_parameters k = (k.hasher, vec_items k.bytes)

abbrev pub meaning : Line → Said
meaning Blank = to_blank
meaning (MakeDuplex d k) = to_make_duplex d k
meaning (MakeMulti f d k) = to_make_multi f d k
meaning (MakeHash k) = to_make_hash (hash_parameters k)
meaning (MakeSerialDuplex f k) = to_make_serial_duplex f k
meaning (MakeSerialHash f k) = to_make_serial_hash f (hash_parameters k)
meaning (Observe v) = to_observe (vec_items v)
meaning (Digest v) = to_digest (vec_items v)
meaning (Digest64 v) = to_digest64 (vec_items v)
meaning (Sample o) = to_sample o
meaning (Bits b) = to_bits b
meaning (Uniform b n) = to_uniform (b, n)
meaning (Check b w) = to_check (b, w)
meaning (Grind b n) = to_grind (b, n)
meaning (Find n m) = to_find (n, m)
meaning Held = to_held
meaning Finalize = to_finalize
meaning (HashOf k) = to_hash_of (hash_parameters k)
meaning (Helpers f d) = to_helpers f d

-- the text that is left
abbrev pub left : Rest → Option (List ℕ)
left r = option_map (λ x. x.now) r.text

-- the answer is what is said, and an error where nothing is said or memory is short
abbrev pub Gives : {T X : Type 0} → (T → X) → Option X → Result T Fault → Type 0
Gives f o r = MatchResult r (λ x. Some (f x) ≡ o) (λ e. (e ≡ Memory) ⊎ (None ≡ o))
