pub use Rattle.buffer.specs.Items
pub use Rattle.domain.specs.Codes
pub use Rattle.packing.specs.Packing
pub use Rattle.sponge.specs.SpongeHeld
pub mod Blocks
