pub mod Separating
pub mod BlockKinds
pub mod Observed
pub mod DuplexRows
pub mod MultiRows
