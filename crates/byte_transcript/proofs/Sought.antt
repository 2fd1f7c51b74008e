-- What the search for a witness finds, case by case.
use Rattle.std.proofs.Common.{◌≡◌, ℕ, ◌<◌, ◌≤◌, true, false, ltb, leb, ◌⊎◌, Some, None, sym, ap, ◌∙◌, inl, inr, ⊎_elim, arith}
use Rattle.std.proofs.lemmas.Bool.{lt-ltb, le-ltb, le-leb, cond-true, cond-false, cases_lt}
use Rattle.challenger_traits.specs.Grinding.{first}
use Rattle.challenger_traits.specs.GrindingProofs.{first_below, first_holds, first_is, first-none}
use Rattle.byte_transcript.specs.Transcript.{Transcript, found_below, candidate_count, passes, least_candidate}

module _ {Held : Type 0} (m : Transcript Held) (h : Held) (n mask : ℕ) where
  abbrev pub NonePass : ℕ → Type 0
  NonePass e = (k : ℕ) → k < e → passes m h mask k ≡ false

  searches : 4 ≤ m.room h → least_candidate m h n mask ≡ found_below (candidate_count n) (first (passes m h mask) (candidate_count n))
  searches r = cond-true (leb 4 (m.room h)) _ _ (le-leb 4 (m.room h) r)

  pub least_candidate-some : (w : ℕ) → 4 ≤ m.room h → w < candidate_count n → NonePass w → passes m h mask w ≡ true → least_candidate m h n mask ≡ Some w
  least_candidate-some w r lt none passed =
      searches r ∙ ap (found_below (candidate_count n)) (first_is (passes m h mask) (candidate_count n) w lt none passed)
      ∙ cond-true (ltb w (candidate_count n)) _ _ (lt-ltb w (candidate_count n) lt)

  pub least_candidate-none : 4 ≤ m.room h → NonePass (candidate_count n) → least_candidate m h n mask ≡ None
  least_candidate-none r none =
      searches r ∙ ap (found_below (candidate_count n)) (first-none (passes m h mask) (candidate_count n) none)
      ∙ cond-false (ltb (candidate_count n) (candidate_count n)) _ _ (le-ltb (candidate_count n) (candidate_count n) (omega arith))

  pub record Found (w : ℕ) : Type 0 where
    pub within : w < candidate_count n
    pub none : NonePass w
    pub passed : passes m h mask w ≡ true

  -- the two ways that a search with room ends
  ways : 4 ≤ m.room h → ((w : ℕ) × Found w × (least_candidate m h n mask ≡ Some w)) ⊎ (NonePass (candidate_count n) × (least_candidate m h n mask ≡ None))
  ways r =
      let p = passes m h mask in
      let e = candidate_count n in
      ⊎_elim
      (λ lt.
      let none : NonePass (first p e) = first_below p e in
      let passed = first_holds p e lt in
      inl (first p e, record { within = lt; none = none; passed = passed }, least_candidate-some (first p e) r lt none passed))
      (λ ge.
      let none : NonePass e = λ k lt. first_below p e k (omega arith) in
      inr (none, least_candidate-none r none))
      (cases_lt (first p e) e)

  pub found : 4 ≤ m.room h → (w : ℕ) → least_candidate m h n mask ≡ Some w → Found w
  found r w e =
      ⊎_elim
      (λ f.
      let same : f.0 ≡ w = (let q = f.2 in cc) in
      record {
        within = omega (arith, f.1.within);
        none = λ k lt. f.1.none k (omega arith);
        passed = ap (passes m h mask) (sym same) ∙ f.1.passed;
      })
      (λ f. let q = f.1 in let z : ◌≡◌ {A = ℕ} 0 1 = cc in let y : ⊥ = omega arith in absurd y)
      (ways r)

  pub missed : 4 ≤ m.room h → least_candidate m h n mask ≡ None → NonePass (candidate_count n)
  missed r e =
      ⊎_elim
      (λ f. let q = f.2 in let z : ◌≡◌ {A = ℕ} 0 1 = cc in let y : ⊥ = omega arith in absurd y)
      (λ f. f.0)
      (ways r)
