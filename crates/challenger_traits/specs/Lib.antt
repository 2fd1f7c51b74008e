pub mod Meaning
pub mod Grinding
pub mod GrindingProofs
pub mod Observing
pub mod ObservingProofs
pub mod SameMeansProofs
