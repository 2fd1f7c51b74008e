-- How many bytes there are, and what fits.
use Rattle.std.proofs.Common.{◌≡◌, ℕ, ◌+◌, ◌*◌, ◌/◌, ◌<◌, ◌≤◌, true, false, List, [], ◌∷◌, ◌++◌, length, refl, suc-mul, div-lt_iff_lt-mul, le-div_iff_mul-le, arith, length-append}
use Rattle.std.proofs.lemmas.List.{length-take-le}
use Rattle.std.proofs.lemmas.Bool.{le-leb, lt-leb, leb-true}
use Rattle.byte_transcript.specs.Transcript.{Transcript, after_bytes, fits}
use Rattle.byte_transcript.specs.Encoding.{eight_bytes, low_bytes, encoded_numbers}

module _ (size : ℕ) (few : size ≤ 8) where
  pub length-low : (x : ℕ) → length (low_bytes size x) ≡ size
  length-low x = length-take-le size (eight_bytes x) few

  length-encoded_numbers : (xs : List ℕ) → length (encoded_numbers size xs) ≡ length xs * size
  length-encoded_numbers [] = omega arith
  length-encoded_numbers (x ∷ xs) =
      let a = length-append (low_bytes size x) (encoded_numbers size xs) in
      let one = length-low x in
      let ih = length-encoded_numbers xs in
      let m = suc-mul (length xs) size in
      omega arith

  module _ {Held : Type 0} (m : Transcript Held) (h : Held) where
    -- all fit if their number is at most the room by their size, and else they do not
    pub all_fit : (xs : List ℕ) → 1 ≤ size → length xs ≤ m.room h / size → fits m h (encoded_numbers size xs) ≡ true
    all_fit xs pos le =
        let total = length-encoded_numbers xs in
        let n : length xs * size ≤ m.room h = (le-div_iff_mul-le pos).0 le in
        le-leb (length (encoded_numbers size xs)) (m.room h) (omega arith)

    pub too_many : (xs : List ℕ) → 1 ≤ size → m.room h / size < length xs → fits m h (encoded_numbers size xs) ≡ false
    too_many xs pos lt =
        let total = length-encoded_numbers xs in
        let n : m.room h < length xs * size = (div-lt_iff_lt-mul pos).0 lt in
        lt-leb (length (encoded_numbers size xs)) (m.room h) (omega arith)

-- of n bytes observed the room keeps all but n
pub lowers_all : {Held : Type 0} (m : Transcript Held) (h : Held) (bs : List ℕ) → m.room h ≤ m.room (after_bytes m h bs) + length bs
lowers_all m h [] = omega arith
lowers_all m h (b ∷ bs) = let one = m.laws.lowers h b in let ih = lowers_all m (m.after_byte h b) bs in omega arith

pub after_bytes-append : {Held : Type 0} (m : Transcript Held) (h : Held) (bs ds : List ℕ) → after_bytes m h (bs ++ ds) ≡ after_bytes m (after_bytes m h bs) ds
after_bytes-append m h [] ds = refl
after_bytes-append m h (b ∷ bs) ds = after_bytes-append m (m.after_byte h b) bs ds

-- what fits together fits in turn
pub fits-first : {Held : Type 0} (m : Transcript Held) (h : Held) (bs ds : List ℕ) → fits m h (bs ++ ds) ≡ true → length bs ≤ m.room h
fits-first m h bs ds ok =
    let all = leb-true (length (bs ++ ds)) (m.room h) ok in
    let a = length-append bs ds in
    omega arith

pub fits-then : {Held : Type 0} (m : Transcript Held) (h : Held) (bs ds : List ℕ) → fits m h (bs ++ ds) ≡ true → fits m (after_bytes m h bs) ds ≡ true
fits-then m h bs ds ok =
    let all = leb-true (length (bs ++ ds)) (m.room h) ok in
    let a = length-append bs ds in
    let low = lowers_all m h bs in
    le-leb (length ds) (m.room (after_bytes m h bs)) (omega arith)
