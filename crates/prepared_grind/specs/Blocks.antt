-- What a prepared block gives out.
use Rattle.std.specs.Prelude.{ℕ, List, take, slice_set}
use Rattle.buffer.specs.Items.{items}
use Rattle.sponge.specs.Sponge.{last_output}
use Rattle.prepared_grind.specs.declared.block.PreparedBlock.{PreparedBlock}

-- the last output under an image of rows, once this code is the block's last word
abbrev pub last_output_with : {order : ℕ} → (List ℕ → List ℕ) → PreparedBlock order → ℕ → ℕ
last_output_with image s code = last_output (take s.rate (image (slice_set (items s.row) s.cell code)))
