-- Words absorbed in groups of RATE, and outputs, on what a sponge holds.
use Rattle.std.specs.Prelude.{ℕ, zero, suc, List, length, ◌==◌, if◌then◌else◌}
use Rattle.sponge.specs.Tags.{scalars, words, tag_of}
use Rattle.sponge.specs.Sponge.{SpongeMake, SpongeState, block_turn, empty_turn}
use Rattle.code_bits.specs.CodeBits.{code_bits}
use Rattle.packing.specs.Powers.{limbs}
use Rattle.packing.specs.Packing.{packed_words, group}

-- a turn with these scalars, from this row: packed in groups of limbs, they are a block under its tag
abbrev pub scalars_block_turn : {order : ℕ} → ℕ → SpongeMake order → List ℕ → List ℕ → SpongeState
scalars_block_turn {order = order} sampled k row xs = block_turn k row (packed_words (code_bits sampled) (limbs sampled order) xs) (tag_of (scalars xs))

-- a turn with these words, from this row: as they are, they are a block under its tag
abbrev pub words_block_turn : {order : ℕ} → SpongeMake order → List ℕ → List ℕ → SpongeState
words_block_turn k row xs = block_turn k row xs (tag_of (words xs))

module _ {order : ℕ} (k : SpongeMake order) where
  -- a turn with no block, if no output is left
  unfoldable pub with_outputs : SpongeState → SpongeState
  with_outputs s = if length s.outputs == 0 then empty_turn k s.row else s

  -- the first n groups of RATE words, each a block
  abbrev pub after_groups : SpongeState → List ℕ → ℕ → SpongeState
  after_groups s ws zero = s
  after_groups s ws (suc n) = words_block_turn k (after_groups s ws n).row (group k.rate ws n)
