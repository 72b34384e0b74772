-- The steps of single functions.
pub mod Mapping
pub mod Cutting
pub mod Freed
