pub mod Numbers
pub mod Spoken
pub mod Made
