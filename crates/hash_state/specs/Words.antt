-- The word at the end of a list of bytes.
use Rattle.std.specs.Prelude.{ℕ, ◌+◌, ◌-◌, ◌*◌, List, length, slice_index}

-- the last four bytes, the last one least significant
abbrev pub end_word : List ℕ → ℕ
end_word d = slice_index d (length d - 1) + slice_index d (length d - 2) * 256 + slice_index d (length d - 3) * 65536 + slice_index d (length d - 4) * 16777216
