use Rattle.std.proofs.Common.{◌≡◌, drop, true}
use Rattle.domain.specs.Codes.{all_codes}
use Rattle.challenger_traits.specs.Observing.{after_codes}
use Rattle.duplex_challenger.specs.Rules.{after_code}
use Rattle.duplex_challenger.specs.Holds.{held_value, make, make_meaning}
use Rattle.duplex_challenger.proofs.DuplexChallenger.observe_byte_codes.Given as goal

abbrev pub invariant-loop-b : goal.invariant-loop-b
invariant-loop-b g l =
    (after_codes (after_code (make_meaning l.initial.self)) (held_value l.self) (drop l.b-index l.bytes) ≡ after_codes (after_code (make_meaning l.initial.self)) (held_value l.initial.self) l.bytes)
    × (make l.self ≡ make l.initial.self)
    × (all_codes g.row.ORDER (drop l.b-index l.bytes) ≡ true → all_codes g.row.ORDER l.bytes ≡ true)
