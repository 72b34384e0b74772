pub mod Ran
pub mod Replayed
pub mod sides
