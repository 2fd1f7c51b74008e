pub mod Steps
pub mod Agreement
