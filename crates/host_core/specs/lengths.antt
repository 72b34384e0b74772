-- How much a call tells.
pub mod Lengths
