pub mod Prepared
pub mod Bytewise
