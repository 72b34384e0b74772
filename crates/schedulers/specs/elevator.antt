pub mod Elevator
pub mod Picks
pub mod code
pub mod laws
