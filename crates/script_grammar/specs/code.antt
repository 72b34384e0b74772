-- What the code sees of its own fields.
pub mod Readers
pub mod Rows
