pub use Rattle.buffer.specs.Items
pub use Rattle.challenger_traits.specs.Grinding
pub use Rattle.challenger_traits.specs.Meaning
pub use Rattle.sponge.specs.Sponge
pub use Rattle.sponge.specs.SpongeHeld
pub mod Tests
pub mod Blocks
