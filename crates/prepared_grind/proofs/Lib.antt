pub mod Written
pub mod Accepted
