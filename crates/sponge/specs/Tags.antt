-- Blocks by kind, and how each is tagged.
use Rattle.std.specs.Prelude.{ℕ, List, length}

-- a block by its kind and its numbers
pub data Numbers : Type 0 where
  codes : List ℕ → Numbers
  scalars : List ℕ → Numbers
  words : List ℕ → Numbers

-- the tag of a block: the number of its codes, scalars or words
abbrev pub tag_of : Numbers → ℕ
tag_of (codes xs) = length xs
tag_of (scalars xs) = length xs
tag_of (words xs) = length xs
