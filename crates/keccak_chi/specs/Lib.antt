pub use Rattle.keccak_spec.specs.Complemented
pub use Rattle.keccak_spec.specs.Keccak
