pub mod Facts
pub mod Faults
pub mod Queue
pub mod Ring
pub mod Told
pub mod code
pub mod laws
