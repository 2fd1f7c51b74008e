pub mod Spoken
pub mod Table
