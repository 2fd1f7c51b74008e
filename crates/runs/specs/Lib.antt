pub use Rattle.challenger_traits.specs.Grinding
pub use Rattle.challenger_traits.specs.Meaning
pub mod Answers
pub mod Runs
pub mod Lent
pub mod Interface
pub mod InterfaceProofs
pub mod Spoken
