pub mod Words
pub mod Grammar
pub mod Meaning
pub mod Spoken
