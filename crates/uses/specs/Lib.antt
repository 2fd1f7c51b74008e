pub use Rattle.challengers.specs.Meaning
pub use Rattle.challengers.specs.Grinding
pub mod Witness
pub mod Challenges
pub mod BabyBear
pub mod Rows
pub mod Shortest
pub mod Apart
