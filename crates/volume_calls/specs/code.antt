-- The code's view of rows, writes and its own fields.
pub mod Rows
pub mod Renames
pub mod Asked
pub mod Sites
pub mod Writes
pub mod Kept
pub mod MarkedVolume
