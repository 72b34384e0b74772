pub mod Slots
pub mod Told
pub mod laws
