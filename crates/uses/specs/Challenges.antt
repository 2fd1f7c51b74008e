-- A digest and numbers observed, and two challenges drawn.
use Rattle.std.specs.Prelude.{ℕ, List, [], ◌∷◌, Ok, Result}
use Rattle.challengers.specs.Refusal.{Refusal}
use Rattle.challengers.specs.Meaning.{Reply, reply, and_then, observe_of}

module _ {Held : Type 0} where
  -- two samples, one after the other
  abbrev pub two_samples : (Held → Reply ℕ Held) → Held → Reply (List ℕ) Held
  two_samples sample_of h = reply ((sample_of h).said ∷ (sample_of (sample_of h).left).said ∷ []) (sample_of (sample_of h).left).left

  -- draws that are never refused
  abbrev pub answered : Reply (List ℕ) Held → Reply (Result (List ℕ) Refusal) Held
  answered r = reply (Ok r.said) r.left

  -- the same where a sample can be refused
  abbrev pub two_samples_if_any : (Held → Reply (Result ℕ Refusal) Held) → Held → Reply (Result (List ℕ) Refusal) Held
  two_samples_if_any sample_of h = and_then (sample_of h) (λ a g. and_then (sample_of g) (λ b left. reply (Ok (a ∷ b ∷ [])) left))

  -- the digest and the numbers, by what observing each leaves, and then the draws
  abbrev pub challenges : {Entry : Type 0} → (Held → List Entry → Result Held Refusal) → (Held → List ℕ → Result Held Refusal) → (Held → Reply (Result (List ℕ) Refusal) Held) → Held → List Entry → List ℕ → Reply (Result (List ℕ) Refusal) Held
  challenges after_digest after_observe draws h digest numbers =
      and_then (observe_of (after_digest h digest) h) (λ u g.
      and_then (observe_of (after_observe g numbers) g) (λ u left. draws left))
