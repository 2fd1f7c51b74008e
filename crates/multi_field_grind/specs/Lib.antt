pub use Rattle.buffer.specs.Items
pub use Rattle.code_bits.specs.CodeBits
pub use Rattle.multi_field_blocks.specs.Blocks
pub use Rattle.packing.specs.Packing
pub use Rattle.packing.specs.Powers
pub use Rattle.sponge.specs.Sponge
pub use Rattle.sponge.specs.SpongeHeld
pub mod Scalars
