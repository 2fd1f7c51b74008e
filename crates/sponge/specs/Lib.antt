pub use Rattle.buffer.specs.Items
pub mod Tags
pub mod Sponge
pub mod SpongeHeld
pub mod AbsorbingProofs
pub mod SameSponge
pub mod SameSpongeProofs
pub mod SpongeHeldProofs
