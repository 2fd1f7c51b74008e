-- The words of a text, and the numbers that they write.
use Rattle.std.specs.Prelude.{ℕ, ◌^◌, Bool, ◌&&◌, List, [], ◌∷◌, length, Some, None, Option, codes, ◌==◌, nat_lt, if◌then◌else◌}
use Rattle.std.specs.Result.{result_ok}
use Rattle.hex.specs.Hex.{decode_of}
use Rattle.std.specs.Str.Parse.{digits_value}
use Rattle.std.specs.Str.{all_ascii_digits, bytes_eq}

-- the bytes before the first space
abbrev pub first_word : List ℕ → List ℕ
first_word [] = []
first_word (c ∷ cs) = if c == 32 then [] else c ∷ first_word cs

-- the bytes behind the first space, if there is one
abbrev pub after_word : List ℕ → Option (List ℕ)
after_word [] = None
after_word (c ∷ cs) = if c == 32 then Some cs else after_word cs

-- the words of a text: what stands between its spaces
abbrev pub begun : ℕ → List (List ℕ) → List (List ℕ)
begun c [] = (c ∷ []) ∷ []
begun c (w ∷ ws) = (c ∷ w) ∷ ws

abbrev pub words : List ℕ → List (List ℕ)
words [] = [] ∷ []
words (c ∷ cs) = if c == 32 then [] ∷ words cs else begun c (words cs)

-- digits, one or more, that write a number below 2^64
abbrev pub is_number : List ℕ → Bool
is_number ds = nat_lt 0 (length ds) && (all_ascii_digits ds && nat_lt (digits_value 10 ds) (2 ^ 64))

abbrev pub number_of : List ℕ → Option ℕ
number_of ds = if is_number ds then Some (digits_value 10 ds) else None

-- the bytes that a word writes, each as two hex digits; a dash writes none
abbrev pub bytes_of : List ℕ → Option (List ℕ)
bytes_of w = if length w == 0 then None else if bytes_eq w (codes "-") then Some [] else result_ok (decode_of w)

-- both, or neither
abbrev pub both : {X Y Z : Type 0} → (X → Y → Z) → Option X → Option Y → Option Z
both f None y = None
both f (Some x) None = None
both f (Some x) (Some y) = Some (f x y)

abbrev pub and_then : {X Y : Type 0} → Option X → (X → Option Y) → Option Y
and_then None f = None
and_then (Some x) f = f x

-- What follows a word, if something does, is one number; two; none or one; any number of them.
abbrev pub one_of : Option (List ℕ) → Option ℕ
one_of None = None
one_of (Some t) = number_of t

abbrev pub two_of : Option (List ℕ) → Option (ℕ × ℕ)
two_of None = None
two_of (Some t) = both (λ a b. (a, b)) (number_of (first_word t)) (one_of (after_word t))

abbrev pub optional_of : Option (List ℕ) → Option (Option ℕ)
optional_of None = Some None
optional_of (Some t) = and_then (number_of t) (λ n. Some (Some n))

abbrev pub all_of : List (List ℕ) → Option (List ℕ)
all_of [] = Some []
all_of (w ∷ ws) = both (λ n ns. n ∷ ns) (number_of w) (all_of ws)

abbrev pub words_of : Option (List ℕ) → List (List ℕ)
words_of None = []
words_of (Some t) = words t

abbrev pub numbers_of : Option (List ℕ) → Option (List ℕ)
numbers_of rest = all_of (words_of rest)

-- what a table has for a name
abbrev pub entry : {X : Type 0} → List ℕ → List (List ℕ × Option X) → Option X
entry name [] = None
entry name (e ∷ es) = if bytes_eq name e.0 then e.1 else entry name es
