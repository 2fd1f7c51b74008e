-- Separation: unlike turns lead to unlike rows.
use Rattle.std.specs.Prelude.{◌≡◌, ℕ, ◌<◌, Bool, true, false, ◌≢◌, List, length, Some, None, Option, IsTrue}
use Rattle.permutation.specs.Rows.{IsRow}
use Rattle.sponge.specs.Sponge.{SpongeMake, SpongeState, padded_words, block_turn, empty_turn}
use Rattle.sponge.specs.Tags.{Numbers, codes, scalars, words, tag_of}
use Rattle.separation.specs.Blocks.{is_block, is_turn, words_of, after_given}

-- are both blocks of one kind?
abbrev pub is_one_kind : Numbers → Numbers → Bool
is_one_kind (codes xs) (codes ys) = true
is_one_kind (scalars xs) (scalars ys) = true
is_one_kind (words xs) (words ys) = true
is_one_kind a b = false

-- are both blocks of one kind, or is one of them none?
abbrev pub is_one_kind_or_none : Option Numbers → Option Numbers → Bool
is_one_kind_or_none (Some a) (Some b) = is_one_kind a b
is_one_kind_or_none a b = true

-- unlike blocks of one kind, which differ in length or in a number, or a block and none
pub record AreUnlike (left right : Option Numbers) : Type 0 where
  pub one_kind : IsTrue (is_one_kind_or_none left right)
  pub not_same : left ≢ right

-- a rule by which blocks may be tagged: each tag is a code and not 0, and of blocks of one kind only equal ones have equal tags and equal words but for zeros behind them
pub record IsTagRule (sampled order rate : ℕ) (tag : Numbers → ℕ) : Type 0 where
  pub code : (block : Numbers) → IsTrue (is_block sampled order rate block) → tag block < order
  pub not_zero : (block : Numbers) → IsTrue (is_block sampled order rate block) → tag block ≢ 0
  pub tells : (a b : Numbers) → IsTrue (is_block sampled order rate a) → IsTrue (is_block sampled order rate b) → IsTrue (is_one_kind a b)
      → tag a ≡ tag b → padded_words (words_of sampled order a) rate ≡ padded_words (words_of sampled order b) rate → a ≡ b

-- what a turn leaves under a tag rule, from this row: the block's words are absorbed under its tag; an empty turn has neither
abbrev pub turn_under : {order : ℕ} → (Numbers → ℕ) → ℕ → SpongeMake order → List ℕ → Option Numbers → SpongeState
turn_under tag sampled k row None = empty_turn k row
turn_under {order} tag sampled k row (Some block) = block_turn k row (words_of sampled order block) (tag block)

-- of a sponge, and of what a turn leaves: on each row of its width, unlike turns lead to unlike rows
abbrev pub UnlikeTurnsLeadToUnlikeRows : {order : ℕ} → (List ℕ → Option Numbers → SpongeState) → ℕ → SpongeMake order → Type 0
UnlikeTurnsLeadToUnlikeRows {order} after sampled k =
    (row : List ℕ) → IsRow order row → length row ≡ k.width
    → (left right : Option Numbers) → IsTrue (is_turn sampled order k.rate left) → IsTrue (is_turn sampled order k.rate right)
    → AreUnlike left right → (after row left).row ≢ (after row right).row

-- of a sponge: a turn with a block writes the block's words under its tag
abbrev pub EachBlockIsWrittenUnderItsTag : {order : ℕ} → ℕ → SpongeMake order → Type 0
EachBlockIsWrittenUnderItsTag {order} sampled k =
    (row : List ℕ) (block : Numbers) → IsTrue (is_block sampled order k.rate block)
    → after_given sampled k row (Some block) ≡ block_turn k row (words_of sampled order block) (tag_of block)
