pub use Rattle.sponge.specs.Tags
pub use Rattle.sponge.specs.Sponge
pub use Rattle.sponge.specs.SpongeHeld
pub use Rattle.duplex_challenger.specs.Holds as DuplexHolds
pub use Rattle.multi_field_challenger.specs.Holds as MultiHolds
pub mod Blocks
pub mod Separation
pub mod Given
