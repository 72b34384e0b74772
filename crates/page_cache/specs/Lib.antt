pub mod Pages
pub mod Unsent
pub mod code
pub mod laws
