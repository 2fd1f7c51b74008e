-- What the steps and rounds of a ladder write, one more at a time.
use Rattle.std.proofs.Common.{◌≡◌, ℕ, ◌+◌, List, length, ap, add-one}
use Rattle.domain.specs.Arithmetic.{Arithmetic}
use Rattle.permutation.specs.Ladder.{ladder_step, ladder_steps, ladder_rounds}

pub steps_more : {order : ℕ} (d : Arithmetic order) (r n : ℕ) (xs : List ℕ) → ladder_steps d r (n + 1) xs ≡ ladder_step d r n (ladder_steps d r n xs)
steps_more d r n xs = ap (λ m. ladder_steps d r m xs) (add-one n)

pub rounds_more : {order : ℕ} (d : Arithmetic order) (n : ℕ) (xs : List ℕ) → ladder_rounds d (n + 1) xs ≡ ladder_steps d n (length xs) (ladder_rounds d n xs)
rounds_more d n xs = ap (λ m. ladder_rounds d m xs) (add-one n)
