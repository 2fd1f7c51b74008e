pub mod Sha3
pub mod Sha3Proofs
pub mod Example
