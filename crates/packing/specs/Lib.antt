pub use Rattle.buffer.specs.Items
pub use Rattle.code_bits.specs.CodeBits
pub use Rattle.permutation.specs.Rows
pub mod Powers
pub mod PowersProofs
pub mod Packing
pub mod PackingProofs
