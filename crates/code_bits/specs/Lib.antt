pub mod CodeBits
pub mod CodeBitsProofs
