pub mod Zones
pub mod code
