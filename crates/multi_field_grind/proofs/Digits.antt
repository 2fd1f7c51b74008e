-- The last digit of a word, and the last scalar of words that are split.
use Rattle.std.proofs.Common.{◌≡◌, ℕ, suc, ◌+◌, ◌-◌, ◌*◌, ◌/◌, ◌%◌, ◌≤◌, List, [], ◌∷◌, ◌++◌, length, get_or, sym, refl, ap, ◌∙◌, arith}
use Rattle.std.proofs.lemmas.Nat.{mul-le}
use Rattle.std.proofs.lemmas.List.{length-append, get_or-append_right, append-nil}
use Rattle.sponge.specs.Sponge.{last_output}
use Rattle.packing.specs.Packing.{digits_of, digits_of_all}
use Rattle.multi_field_blocks.proofs.Lists.{digits_of-length, digits_of_all-length}

last-append : (xs ys : List ℕ) → 1 ≤ length ys → last_output (xs ++ ys) ≡ last_output ys
last-append xs ys some =
    get_or-append_right xs ys (length xs) (length (xs ++ ys) - 1) 0 refl (omega (arith, length-append xs ys))
    ∙ ap (λ n. get_or ys n 0) (let e : length (xs ++ ys) - 1 - length xs ≡ length ys - 1 = omega (arith, length-append xs ys) in e)

-- the lowest digit is divided away
pub last_divided : (base m w : ℕ) → last_output (digits_of base (m + 2) w) ≡ last_output (digits_of base (m + 1) (w / base))
last_divided base m w =
    let more : m + 2 ≡ suc (m + 1) = omega arith in
    ap (λ k. last_output (digits_of base k w)) more
    ∙ last-append (w % base ∷ []) (digits_of base (m + 1) (w / base)) (omega (arith, digits_of-length base (m + 1) (w / base)))

pub last_spread : (base k : ℕ) (ws : List ℕ) → 1 ≤ k → 1 ≤ length ws → last_output (digits_of_all base k ws) ≡ last_output (digits_of base k (last_output ws))
last_spread base k [] some any = absurd (omega arith)
last_spread base k (w ∷ []) some any = ap last_output (append-nil (digits_of base k w))
last_spread base k (w ∷ v ∷ vs) some any =
    let few : 1 * 1 ≤ length (v ∷ vs) * k = mul-le 1 1 (length (v ∷ vs)) k (omega arith) some in
    last-append (digits_of base k w) (digits_of_all base k (v ∷ vs)) (omega (arith, few, digits_of_all-length base k (v ∷ vs)))
    ∙ last_spread base k (v ∷ vs) some (omega arith)
    ∙ ap (λ x. last_output (digits_of base k x)) (sym (last-append (w ∷ []) (v ∷ vs) (omega arith)))
