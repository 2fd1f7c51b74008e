-- What a sponge does: absorb a block under a tag, permute, and give outputs.
use Rattle.std.specs.Prelude.{ℕ, ◌+◌, ◌-◌, List, [], ◌∷◌, ◌++◌, length, take, drop, replicate, slice_index}
use Rattle.domain.specs.Arithmetic.{Arithmetic}
use Rattle.sponge.specs.Tags.{codes, tag_of}

-- what making a sponge fixes: the domain's arithmetic, the permutation's image, WIDTH and RATE
pub record SpongeMake (order : ℕ) : Type 0 where
  pub arithmetic : Arithmetic order
  pub image : List ℕ → List ℕ
  pub width : ℕ
  pub rate : ℕ

-- what a sponge holds: its row, and the outputs not yet taken
pub record SpongeState : Type 0 where
  pub row : List ℕ
  pub outputs : List ℕ

abbrev pub sponge_state : List ℕ → List ℕ → SpongeState
sponge_state row outputs = record { row = row; outputs = outputs }

-- the words, and zeros up to the rate
abbrev pub padded_words : List ℕ → ℕ → List ℕ
padded_words words rate = words ++ replicate (rate - length words) 0

-- the row, after these words under this tag: the words stand in the first cells, the rest of the rate is zeroed, and cell RATE gains the tag, by which a block stays apart from the same block with zeros behind it
unfoldable pub row_with_block : {order : ℕ} → SpongeMake order → List ℕ → List ℕ → ℕ → List ℕ
row_with_block k row words tag = padded_words words k.rate ++ (k.arithmetic.add (slice_index row k.rate) tag ∷ drop (k.rate + 1) row)

-- the row was just permuted: the outputs are its rate
abbrev pub with_rate_as_outputs : {order : ℕ} → SpongeMake order → List ℕ → SpongeState
with_rate_as_outputs k row = sponge_state row (take k.rate row)

-- a turn with a block, from this row: the words under the tag are absorbed, and the row is permuted
abbrev pub block_turn : {order : ℕ} → SpongeMake order → List ℕ → List ℕ → ℕ → SpongeState
block_turn k row words tag = with_rate_as_outputs k (k.image (row_with_block k row words tag))

-- a turn with no block: the row is only permuted
abbrev pub empty_turn : {order : ℕ} → SpongeMake order → List ℕ → SpongeState
empty_turn k row = with_rate_as_outputs k (k.image row)

-- a turn with these codes, from this row: they are a block under its tag, or no block if there is none
abbrev pub after_turn : {order : ℕ} → SpongeMake order → List ℕ → List ℕ → SpongeState
after_turn k row [] = empty_turn k row
after_turn k row (x ∷ xs) = block_turn k row (x ∷ xs) (tag_of (codes (x ∷ xs)))

-- outputs are taken from the end
abbrev pub last_output : List ℕ → ℕ
last_output outputs = slice_index outputs (length outputs - 1)

abbrev pub without_last : List ℕ → List ℕ
without_last outputs = take (length outputs - 1) outputs
