pub mod Sha256
pub mod Sha256Proofs
pub mod Example
