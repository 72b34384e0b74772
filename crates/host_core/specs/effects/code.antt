-- The notes one by one, as the code takes them.
pub mod Noting
