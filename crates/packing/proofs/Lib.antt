pub mod Groups
pub mod Facts
