pub mod Complementing
