-- What the numbers of a pair of domains give.
use Rattle.std.proofs.Common.{◌≡◌, ℕ, ◌+◌, ◌*◌, ◌^◌, ◌<◌, ◌≤◌, List, length, get_or, ap, arith}
use Rattle.std.specs.Prelude.{reverse}
use Rattle.std.proofs.lemmas.Nat.{mul-le}
use Rattle.permutation.specs.Rows.{HasOnlyCodes}
use Rattle.code_bits.specs.CodeBits.{code_bits}
use Rattle.packing.specs.declared.RadixPacking.{RadixPacking}
use Rattle.packing.specs.Powers.{limbs}
use Rattle.packing.specs.Packing.{packed_words}
use Rattle.packing.specs.PackingProofs.{limbs-some, limbs-few, packed_words-length, groups-few}
use Rattle.packing.proofs.Groups.{end_word, end_more, end-code}

module _ {sampled order : ℕ} (n : RadixPacking sampled order) (high : order < 2 ^ 64) where
  pub some : 1 ≤ n.limbs
  some = omega (arith, n.sized, limbs-some sampled order n.low n.small n.less high)

  -- the end of a group is a word
  pub word : (xs : List ℕ) → HasOnlyCodes sampled xs → length xs ≤ n.limbs → (k : ℕ) → end_word sampled xs k < order
  word xs codes few k = end-code sampled order n.low n.small n.less high xs (omega (arith, n.sized)) codes k

  -- the word with one scalar more is a word
  pub next_code : (xs : List ℕ) → HasOnlyCodes sampled xs → length xs ≤ n.limbs → (k x w : ℕ) → (k < length (reverse xs)) × (x ≡ get_or (reverse xs) k x)
      → w ≡ end_word sampled xs k → w * n.radix + x < order
  next_code xs codes few k x w t e = omega (arith, end_more sampled xs n.radix k x w n.radixed t e, word xs codes few (k + 1))

  -- the words of a batch fit the rate
  pub words-few : (rate : ℕ) (xs words : List ℕ) → words ≡ packed_words (code_bits sampled) (limbs sampled order) xs → length xs ≤ n.limbs * rate → length words ≤ rate
  words-few rate xs words e room =
      let m = limbs sampled order in
      let one = limbs-some sampled order n.low n.small n.less high in
      let wide : length xs ≤ m * rate = omega (arith, room, ap (λ k. k * rate) n.sized) in
      omega (arith, ap length e, packed_words-length m one (code_bits sampled) xs, groups-few m one rate xs wide)

  -- limbs times a rate is small
  pub product_small : (rate : ℕ) → rate ≤ 64 → n.limbs * rate ≤ 4096
  product_small rate r = mul-le n.limbs rate 64 64 (omega (arith, n.sized, limbs-few sampled order n.low n.small n.less high)) r
