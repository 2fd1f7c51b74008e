pub mod Hashing
pub mod HashingProofs
pub mod SameDigests
