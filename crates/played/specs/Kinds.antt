-- The kinds of lines.
use Rattle.std.specs.Prelude.{ℕ, List}
use Rattle.script.specs.declared.DomainName.{DomainName}
use Rattle.script.specs.declared.HasherName.{HasherName}
use Rattle.script.specs.Grammar.{Said, to_blank, to_make_duplex, to_make_multi, to_make_hash, to_make_serial_duplex, to_make_serial_hash, to_observe, to_digest, to_digest64, to_sample, to_bits, to_uniform, to_check, to_grind, to_find, to_held, to_finalize, to_hash_of, to_helpers}

-- an empty line or a comment; a call; the other things that a line asks for; and the bounds of a transcript, which are makes and finalize
pub data LineKind : Type 0 where
  blank : LineKind
  call : LineKind
  find : ℕ → ℕ → LineKind
  held : LineKind
  hash_of : HasherName × List ℕ → LineKind
  helpers : DomainName → DomainName → LineKind
  bound : LineKind

abbrev pub kind_of : Said → LineKind
kind_of to_blank = blank
kind_of (to_make_duplex d k) = bound
kind_of (to_make_multi f d k) = bound
kind_of (to_make_hash k) = bound
kind_of (to_make_serial_duplex f k) = bound
kind_of (to_make_serial_hash f k) = bound
kind_of (to_observe xs) = call
kind_of (to_digest xs) = call
kind_of (to_digest64 xs) = call
kind_of (to_sample o) = call
kind_of (to_bits b) = call
kind_of (to_uniform p) = call
kind_of (to_check p) = call
kind_of (to_grind p) = call
kind_of (to_find p) = find p.0 p.1
kind_of to_held = held
kind_of to_finalize = bound
kind_of (to_hash_of k) = hash_of k
kind_of (to_helpers f d) = helpers f d
