pub use Rattle.challenger_traits.specs.Meaning
pub mod Transcript
pub mod SameTranscript
pub mod SameTranscriptProofs
pub mod Encoding
