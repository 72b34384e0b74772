-- What the code sees of its own fields.
pub mod Fields
pub mod Helpers
pub mod Newest
