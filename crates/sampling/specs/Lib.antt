pub use Rattle.challenger_traits.specs.Meaning
pub mod Draws
pub mod Uniform
pub mod SameDrawsProofs
