-- What a prepared multi-field check draws.
use Rattle.std.specs.Prelude.{ℕ, ◌+◌, ◌*◌, List}
use Rattle.sponge.specs.Sponge.{last_output}
use Rattle.packing.specs.Powers.{digits}
use Rattle.packing.specs.Packing.{digits_of, digits_of_all}
use Rattle.prepared_grind.specs.Blocks.{last_output_with}
use Rattle.multi_field_grind.specs.declared.PreparedScalar.{PreparedScalar}

-- the last scalar that these outputs are split into
abbrev pub last_scalar : ℕ → ℕ → List ℕ → ℕ
last_scalar sampled order outputs = last_output (digits_of_all sampled (digits sampled order) outputs)

-- the last digit that comes out under an image of rows, once the witness is put into its word by its weight there
abbrev pub drawn_scalar_with : {sampled order : ℕ} → (List ℕ → List ℕ) → PreparedScalar sampled order → ℕ → ℕ
drawn_scalar_with {sampled = sampled} image s w = last_output (digits_of sampled s.digits (last_output_with image s.block (s.rest + w * s.weight)))
