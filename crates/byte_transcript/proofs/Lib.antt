pub mod Sought
pub mod Fitting
