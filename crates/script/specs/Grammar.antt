-- What a line says.
use Rattle.std.specs.Prelude.{ℕ, Bool, ◌||◌, List, [], ◌∷◌, length, take, drop, Some, None, codes, Option, ◌==◌, slice_index, if◌then◌else◌}
use Rattle.std.specs.Str.{bytes_eq}
use Rattle.script.specs.declared.DomainName.{DomainName}
use Rattle.script.specs.declared.DomainName.TheVariants.{Bytes, BabyBear, KoalaBear, Goldilocks}
use Rattle.script.specs.declared.PermutationName.{PermutationName}
use Rattle.script.specs.declared.PermutationName.TheVariants.{Mirror, Ladder}
use Rattle.script.specs.declared.HasherName.{HasherName}
use Rattle.script.specs.declared.HasherName.TheVariants.{Sha256, Sha3_256}
use Rattle.script.specs.declared.SpongeParameters.{SpongeParameters}
use Rattle.script.specs.Words.{first_word, after_word, number_of, bytes_of, and_then, one_of, two_of, optional_of, numbers_of, entry}

pub data Said : Type 0 where
  to_blank : Said
  to_make_duplex : DomainName → SpongeParameters → Said
  to_make_multi : DomainName → DomainName → SpongeParameters → Said
  to_make_hash : HasherName × List ℕ → Said
  to_make_serial_duplex : DomainName → SpongeParameters → Said
  to_make_serial_hash : DomainName → HasherName × List ℕ → Said
  to_observe : List ℕ → Said
  to_digest : List ℕ → Said
  to_digest64 : List ℕ → Said
  to_sample : Option ℕ → Said
  to_bits : ℕ → Said
  to_uniform : ℕ × ℕ → Said
  to_check : ℕ × ℕ → Said
  to_grind : ℕ × ℕ → Said
  to_find : ℕ × ℕ → Said
  to_held : Said
  to_finalize : Said
  to_hash_of : HasherName × List ℕ → Said
  to_helpers : DomainName → DomainName → Said

abbrev pub domain_of : List ℕ → Option DomainName
domain_of w = entry w (
    (codes "bytes", Some Bytes)
    ∷ (codes "babybear", Some BabyBear)
    ∷ (codes "koalabear", Some KoalaBear)
    ∷ (codes "goldilocks", Some Goldilocks)
    ∷ [])

-- what follows a text that the word begins with
abbrev pub after : List ℕ → List ℕ → Option (List ℕ)
after front w = if bytes_eq (take (length front) w) front then Some (drop (length front) w) else None

abbrev pub permutation_of : List ℕ → Option PermutationName
permutation_of w = if bytes_eq w (codes "mirror") then Some Mirror else and_then (after (codes "ladder:") w) (λ t. and_then (number_of t) (λ n. Some (Ladder n)))

abbrev pub hasher_of : List ℕ → Option HasherName
hasher_of w = entry w ((codes "sha256", Some Sha256) ∷ (codes "sha3-256", Some Sha3_256) ∷ [])

-- a domain, and what follows it; two of them
abbrev pub domain_first : Option (List ℕ) → Option (DomainName × Option (List ℕ))
domain_first rest = and_then rest (λ t. and_then (domain_of (first_word t)) (λ d. Some (d, after_word t)))

abbrev pub domains_first : Option (List ℕ) → Option (DomainName × DomainName × Option (List ℕ))
domains_first rest = and_then (domain_first rest) (λ p. and_then (domain_first p.1) (λ q. Some (p.0, q.0, q.1)))

-- PERM WIDTH RATE
abbrev pub sponge_of : Option (List ℕ) → Option SpongeParameters
sponge_of rest =
    and_then rest (λ t. and_then (permutation_of (first_word t)) (λ p. and_then (two_of (after_word t)) (λ sizes. Some (record { permutation = p; width = sizes.0; rate = sizes.1 }))))

-- HASHER HEX
abbrev pub hashed_of : Option (List ℕ) → Option (HasherName × List ℕ)
hashed_of rest = and_then rest (λ t. and_then (hasher_of (first_word t)) (λ h. and_then (after_word t) (λ u. and_then (bytes_of u) (λ bs. Some (h, bs)))))

abbrev pub hash_of : Option (List ℕ) → Option Said
hash_of rest = and_then (hashed_of rest) (λ k. Some (to_hash_of k))

-- DOMAIN PERM WIDTH RATE
abbrev pub duplex_of : Option (List ℕ) → Option Said
duplex_of rest = and_then (domain_first rest) (λ p. and_then (sponge_of p.1) (λ k. Some (to_make_duplex p.0 k)))

-- SAMPLED SPONGE PERM WIDTH RATE
abbrev pub multi_of : Option (List ℕ) → Option Said
multi_of rest = and_then (domains_first rest) (λ p. and_then (sponge_of p.2) (λ k. Some (to_make_multi p.0 p.1 k)))

-- duplex PERM WIDTH RATE, or hash HASHER HEX
abbrev pub below : DomainName → Option (List ℕ) → Option Said
below sampled rest =
    and_then rest (λ t. entry (first_word t) (
    (codes "duplex", and_then (sponge_of (after_word t)) (λ k. Some (to_make_serial_duplex sampled k)))
    ∷ (codes "hash", and_then (hashed_of (after_word t)) (λ k. Some (to_make_serial_hash sampled k)))
    ∷ []))

-- SAMPLED, and a byte transcript
abbrev pub serial_of : Option (List ℕ) → Option Said
serial_of rest = and_then (domain_first rest) (λ p. below p.0 p.1)

abbrev pub make_of : Option (List ℕ) → Option Said
make_of rest =
    and_then rest (λ t. entry (first_word t) (
    (codes "duplex", duplex_of (after_word t))
    ∷ (codes "multi", multi_of (after_word t))
    ∷ (codes "hash", and_then (hashed_of (after_word t)) (λ k. Some (to_make_hash k)))
    ∷ (codes "serial", serial_of (after_word t))
    ∷ []))

abbrev pub nothing_of : Option (List ℕ) → Said → Option Said
nothing_of None s = Some s
nothing_of (Some t) s = None

-- SAMPLED SPONGE
abbrev pub helpers_of : Option (List ℕ) → Option Said
helpers_of rest = and_then (domains_first rest) (λ p. nothing_of p.2 (to_helpers p.0 p.1))

abbrev pub pairs : Option (List ℕ) → List (List ℕ × Option Said)
pairs rest =
    (codes "uniform", and_then (two_of rest) (λ p. Some (to_uniform p)))
    ∷ (codes "check", and_then (two_of rest) (λ p. Some (to_check p)))
    ∷ (codes "grind", and_then (two_of rest) (λ p. Some (to_grind p)))
    ∷ (codes "find", and_then (two_of rest) (λ p. Some (to_find p)))
    ∷ []

abbrev pub calls : Option (List ℕ) → List (List ℕ × Option Said)
calls rest =
    (codes "observe", and_then (numbers_of rest) (λ ns. Some (to_observe ns)))
    ∷ (codes "digest", and_then (numbers_of rest) (λ ns. Some (to_digest ns)))
    ∷ (codes "digest64", and_then (numbers_of rest) (λ ns. Some (to_digest64 ns)))
    ∷ (codes "sample", and_then (optional_of rest) (λ o. Some (to_sample o)))
    ∷ (codes "bits", and_then (one_of rest) (λ n. Some (to_bits n)))
    ∷ (codes "held", nothing_of rest to_held)
    ∷ (codes "finalize", nothing_of rest to_finalize)
    ∷ pairs rest

abbrev pub line_of : List ℕ → List (List ℕ × Option Said)
line_of t =
    (codes "make", make_of (after_word t))
    ∷ (codes "hashof", hash_of (after_word t))
    ∷ (codes "helpers", helpers_of (after_word t))
    ∷ calls (after_word t)

-- an empty line, or one that starts with #
abbrev pub skipped : List ℕ → Bool
skipped t = length t == 0 || slice_index t 0 == 35

abbrev pub said_by : List ℕ → Option Said
said_by t = if skipped t then Some to_blank else entry (first_word t) (line_of t)
