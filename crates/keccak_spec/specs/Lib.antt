pub mod Complemented
pub mod Keccak
