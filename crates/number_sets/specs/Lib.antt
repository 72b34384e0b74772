pub mod Sets
pub mod Keyed
pub mod code
pub mod laws
