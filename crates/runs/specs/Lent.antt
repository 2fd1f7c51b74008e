-- What a call lends is read wherever it lies.
use Rattle.std.specs.Prelude.{◌≡◌, ℕ, List}
use denote.Ref.{Bor}
use Rattle.runs.specs.declared.call.Call.{Call}
use Rattle.runs.specs.declared.call.Call.TheVariants.{Observe, ObserveDigest, ObserveBytes, ObserveDigestBytes, ObserveDigestWords}
use Rattle.runs.specs.Runs.{Rule}

-- a list, lent from nowhere
abbrev pub lent : List ℕ → Bor (List ℕ)
lent xs = record { ref_ptr = (0, 0); now = xs }

-- the call with its list so lent
abbrev pub plain : Call → Call
plain (Observe xs) = Observe (lent xs.now)
plain (ObserveDigest xs) = ObserveDigest (lent xs.now)
plain (ObserveBytes xs) = ObserveBytes (lent xs.now)
plain (ObserveDigestBytes xs) = ObserveDigestBytes (lent xs.now)
plain (ObserveDigestWords xs) = ObserveDigestWords (lent xs.now)
plain c = c

-- a rule reads the numbers of a call, and not where they lie
abbrev pub ReadsNumbers : {Held : Type 0} → Rule Held → Type 0
ReadsNumbers {Held} rule = (h : Held) (c : Call) → rule h c ≡ rule h (plain c)
