pub mod Recovered
pub mod Commands
pub mod Revokes
pub mod Driving
pub mod Endings
pub mod code
pub mod laws
