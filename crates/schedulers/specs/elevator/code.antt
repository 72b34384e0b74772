-- The code's view of its fields and searches.
pub mod Fields
pub mod Found
