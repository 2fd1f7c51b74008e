pub mod FirstPart
pub mod Telling
