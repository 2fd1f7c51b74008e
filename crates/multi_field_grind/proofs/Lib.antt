pub mod Digits
pub mod Packs
pub mod Tested
