-- The code's view of its own results.
pub mod Readers
