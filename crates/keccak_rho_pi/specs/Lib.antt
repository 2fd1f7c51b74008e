pub use Rattle.keccak_spec.specs.Keccak
