pub mod Picks
pub mod code
