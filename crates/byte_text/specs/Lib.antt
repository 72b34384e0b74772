pub mod Hex
pub mod Runs
