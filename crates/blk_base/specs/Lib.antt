pub mod Block
pub mod Image
pub mod Members
pub mod Streams
pub mod Memory
pub mod code
pub mod laws
