pub mod Fields
pub mod laws
