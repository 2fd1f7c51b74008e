-- Blocks: which there are, what each writes and under which tag, and what a turn leaves.
use Rattle.std.specs.Prelude.{ℕ, ◌*◌, Bool, true, ◌&&◌, List, length, Some, None, Option, nat_le, nat_lt}
use Rattle.domain.specs.Codes.{all_codes}
use Rattle.sponge.specs.Tags.{Numbers, codes, scalars, words}
use Rattle.sponge.specs.Sponge.{SpongeMake, SpongeState, empty_turn, after_turn}
use Rattle.code_bits.specs.CodeBits.{code_bits}
use Rattle.packing.specs.Powers.{limbs}
use Rattle.packing.specs.Packing.{packed_words}
use Rattle.multi_field_blocks.specs.Blocks.{scalars_block_turn, words_block_turn}
use Rattle.separation.specs.declared.block.Block.{Block}
use Rattle.separation.specs.declared.block.Block.TheVariants.{Codes, Scalars, Words}
use Rattle.refusal.specs.declared.limits.TheConstants.{LONGEST_BATCH, GREATEST_SAMPLED_ORDER}

-- what is given to a turn, wherever its numbers lie: a block, or none
abbrev pub numbers_of : Option Block → Option Numbers
numbers_of None = None
numbers_of (Some (Codes xs)) = Some (codes xs.now)
numbers_of (Some (Scalars xs)) = Some (scalars xs.now)
numbers_of (Some (Words xs)) = Some (words xs.now)

-- are these 1 to `most` numbers, all codes of the order?
abbrev pub is_list_of_codes : (order most : ℕ) → List ℕ → Bool
is_list_of_codes order most xs = nat_le 1 (length xs) && (nat_le (length xs) most && all_codes order xs)

-- are these a block of scalars? The sampled order is at most the greatest and below the order, the batch at most the longest, and they are 1 to limbs times RATE
abbrev pub is_scalars_block : (sampled order rate : ℕ) → List ℕ → Bool
is_scalars_block sampled order rate xs =
    nat_le sampled GREATEST_SAMPLED_ORDER && (nat_lt sampled order
    && (nat_le (limbs sampled order * rate) LONGEST_BATCH && is_list_of_codes sampled (limbs sampled order * rate) xs))

-- is it a block, of this sampled order, order and rate?
abbrev pub is_block : (sampled order rate : ℕ) → Numbers → Bool
is_block sampled order rate (codes xs) = is_list_of_codes order rate xs
is_block sampled order rate (scalars xs) = is_scalars_block sampled order rate xs
is_block sampled order rate (words xs) = is_list_of_codes order rate xs

-- an empty turn has no block
abbrev pub is_turn : (sampled order rate : ℕ) → Option Numbers → Bool
is_turn sampled order rate None = true
is_turn sampled order rate (Some block) = is_block sampled order rate block

-- the words that a block writes: codes and words as they are, scalars packed in groups of limbs
abbrev pub words_of : (sampled order : ℕ) → Numbers → List ℕ
words_of sampled order (codes xs) = xs
words_of sampled order (scalars xs) = packed_words (code_bits sampled) (limbs sampled order) xs
words_of sampled order (words xs) = xs

-- what a turn leaves, from this row
abbrev pub after_given : {order : ℕ} → ℕ → SpongeMake order → List ℕ → Option Numbers → SpongeState
after_given sampled k row None = empty_turn k row
after_given sampled k row (Some (codes xs)) = after_turn k row xs
after_given sampled k row (Some (scalars xs)) = scalars_block_turn sampled k row xs
after_given sampled k row (Some (words xs)) = words_block_turn k row xs
