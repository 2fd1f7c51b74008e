pub use Rattle.played.specs.Voices
pub use Rattle.rehearsal.specs.Lines
pub use Rattle.script.specs.Grammar
pub use Rattle.script.specs.Meaning
pub mod Hashes
pub mod Helpers
pub mod Sheets
pub mod Scripts
