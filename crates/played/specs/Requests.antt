-- The call that a line asks of a challenger.
use Rattle.std.specs.Prelude.{ℕ, Bool, true, false, List, Some, None, Option, Ok, Err, Result, if◌then◌else◌}
use Rattle.std.specs.Option.{option_map}
use denote.Ref.{Bor}
use Rattle.runs.specs.Lent.{lent, plain}
use Rattle.domain.specs.Codes.{all_codes}
use Rattle.runs.specs.declared.call.Call.{Call}
use Rattle.runs.specs.declared.call.Call.TheVariants.{Observe, ObserveDigest, ObserveBytes, ObserveDigestBytes, ObserveDigestWords, Sample, SampleWithin, SampleBits, UniformBits, CheckWitness, Grind}
use Rattle.script.specs.Grammar.{Said, to_blank, to_make_duplex, to_make_multi, to_make_hash, to_make_serial_duplex, to_make_serial_hash, to_observe, to_digest, to_digest64, to_sample, to_bits, to_uniform, to_check, to_grind, to_find, to_held, to_finalize, to_hash_of, to_helpers}
use Rattle.played.specs.declared.dialect.Dialect.{Dialect}
use Rattle.played.specs.declared.dialect.Dialect.TheVariants.{Codes, Bytes, Serializing}
use Rattle.played.specs.declared.dialect.Unfit.{Unfit}
use Rattle.played.specs.declared.dialect.Unfit.TheVariants.{NotBytes, Limit}

-- the numbers, if all are bytes
abbrev pub as_bytes : List ℕ → Option (List ℕ)
as_bytes xs = if all_codes 256 xs then Some xs else None

-- the numbers of an observe or a digest, if all are bytes
abbrev pub bytes_said : Said → Option (List ℕ)
bytes_said (to_observe xs) = as_bytes xs
bytes_said (to_digest xs) = as_bytes xs
bytes_said _ = None

-- with its list lent from nowhere
abbrev pub plainly : Result (Option Call) Unfit → Result (Option Call) Unfit
plainly (Ok o) = Ok (option_map plain o)
plainly (Err e) = Err e

-- are bytes taken by observe, and by digest?
abbrev pub observes_bytes : Dialect → Bool
observes_bytes Codes = false
observes_bytes Bytes = true
observes_bytes Serializing = false

abbrev pub digests_bytes : Dialect → Bool
digests_bytes Codes = false
digests_bytes Bytes = true
digests_bytes Serializing = true

-- a call that lends the numbers as bytes, if they are
abbrev pub lending : (Bor (List ℕ) → Call) → Option (List ℕ) → Result (Option Call) Unfit
lending call None = Err NotBytes
lending call (Some bs) = Ok (Some (call (lent bs)))

-- the call of bytes, where bytes are taken, or that of codes
abbrev pub taking : Bool → (Bor (List ℕ) → Call) → (Bor (List ℕ) → Call) → List ℕ → Result (Option Call) Unfit
taking bytes of_bytes of_codes xs = if bytes then lending of_bytes (as_bytes xs) else Ok (Some (of_codes (lent xs)))

-- a sample gives a draw limit to a serializing challenger, and to no other
abbrev pub sampling : Dialect → Option ℕ → Result (Option Call) Unfit
sampling Codes None = Ok (Some Sample)
sampling Codes (Some limit) = Err Limit
sampling Bytes None = Ok (Some Sample)
sampling Bytes (Some limit) = Err Limit
sampling Serializing None = Err Limit
sampling Serializing (Some limit) = Ok (Some (SampleWithin limit))

-- what a line asks for, if it asks for a call, or why it does not fit
abbrev pub called : Dialect → Said → Result (Option Call) Unfit
called d to_blank = Ok None
called d (to_make_duplex e k) = Ok None
called d (to_make_multi f e k) = Ok None
called d (to_make_hash k) = Ok None
called d (to_make_serial_duplex f k) = Ok None
called d (to_make_serial_hash f k) = Ok None
called d (to_observe xs) = taking (observes_bytes d) ObserveBytes Observe xs
called d (to_digest xs) = taking (digests_bytes d) ObserveDigestBytes ObserveDigest xs
called d (to_digest64 xs) = Ok (Some (ObserveDigestWords (lent xs)))
called d (to_sample o) = sampling d o
called d (to_bits b) = Ok (Some (SampleBits b))
called d (to_uniform p) = Ok (Some (UniformBits p.0 p.1))
called d (to_check p) = Ok (Some (CheckWitness p.0 p.1))
called d (to_grind p) = Ok (Some (Grind p.0 p.1))
called d (to_find p) = Ok None
called d to_held = Ok None
called d to_finalize = Ok None
called d (to_hash_of k) = Ok None
called d (to_helpers f e) = Ok None
