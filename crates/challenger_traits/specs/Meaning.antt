-- What the calls of a challenger mean, over any type `Held` of held values.
use Rattle.std.specs.Prelude.{◌≡◌, ℕ, ◌^◌, ◌<◌, Bool, ◌&&◌, Ok, Err, Result, nat_lt, if◌then◌else◌}
use Rattle.refusal.specs.declared.Refusal.{Refusal}
use Rattle.refusal.specs.declared.Refusal.TheVariants.{Bits}
use Rattle.refusal.specs.declared.limits.TheConstants.{BITS_LIMIT}

-- what a call says, and the held value that it leaves
pub record Reply (Said Held : Type 0) : Type 0 where
  pub said : Said
  pub left : Held

abbrev pub reply : {Said Held : Type 0} → Said → Held → Reply Said Held
reply s h = record { said = s; left = h }

-- what a call promises: it says and leaves what the rule gives, and what making fixed stays
pub record Does {Self Make Held Said : Type 0} (make : Self → Make) (held_value : Self → Held) (before after : Self) (said : Said) (rule : Reply Said Held) : Type 0 where
  pub answer : said ≡ rule.said
  pub state : held_value after ≡ rule.left
  pub same_make : make after ≡ make before

-- a question: passed, the work is done; failed, the call is refused so, and leaves what it met
abbrev pub reply_if_passed : {Given Held : Type 0} → Bool → Refusal → Held → Reply (Result Given Refusal) Held → Reply (Result Given Refusal) Held
reply_if_passed passed e h work = if passed then work else reply (Err e) h

-- a call, given the answer of the one before it and what that left; a refusal ends both
abbrev pub unless_refused : {First Second Held : Type 0} → Result First Refusal → Held → (First → Held → Reply (Result Second Refusal) Held) → Reply (Result Second Refusal) Held
unless_refused (Ok v) left next = next v left
unless_refused (Err e) left next = reply (Err e) left

-- one call after another: the answer of the second, or the refusal that ends them
abbrev pub and_then : {First Second Held : Type 0} → Reply (Result First Refusal) Held → (First → Held → Reply (Result Second Refusal) Held) → Reply (Result Second Refusal) Held
and_then r next = unless_refused r.said r.left next

-- a call that is never refused, as one that could be
abbrev pub never_refused : {Given Held : Type 0} → Reply Given Held → Reply (Result Given Refusal) Held
never_refused r = reply (Ok r.said) r.left

-- an observe, by what it leaves or how it refuses; refused, it leaves what it met
abbrev pub observe_of : {Held : Type 0} → Result Held Refusal → Held → Reply (Result (Unit {0}) Refusal) Held
observe_of (Ok g) h = reply (Ok tt) g
observe_of (Err e) h = reply (Err e) h

-- the meaning of drawing bits: the sampled order, the number drawn, what that leaves
pub record Drawing (Held : Type 0) : Type 0 where
  pub order : ℕ
  pub value : Held → ℕ → ℕ
  pub after : Held → ℕ → Held
  pub below : (h : Held) (b : ℕ) → value h b < 2 ^ b

-- do so many bits fit a number, and does 2^bits lie below the order?
abbrev pub bits_fit : ℕ → ℕ → Bool
bits_fit order b = nat_lt b BITS_LIMIT && nat_lt (2 ^ b) order

abbrev pub bits_of : {Held : Type 0} → Drawing Held → Held → ℕ → Reply (Result ℕ Refusal) Held
bits_of d h b = reply_if_passed (bits_fit d.order b) Bits h (reply (Ok (d.value h b)) (d.after h b))
