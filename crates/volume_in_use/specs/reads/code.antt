-- The code's view of a file's bytes.
pub mod Pieces
