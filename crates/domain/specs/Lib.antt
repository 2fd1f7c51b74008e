pub mod Arithmetic
pub mod Operations
pub mod ModularProofs
pub mod Modular
pub mod Codes
pub mod SameArithmetic
