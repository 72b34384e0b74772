pub mod Zones
pub mod Events
pub mod code
pub mod laws
