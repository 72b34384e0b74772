-- What the code answers and counts.
pub mod Told
pub mod Waiting
