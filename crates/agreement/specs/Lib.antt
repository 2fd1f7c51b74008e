pub use Rattle.refusal.specs.Made
pub use Rattle.runs.specs.Runs
pub mod Ends
