-- The code's view of names that change in memory.
pub mod Parts
