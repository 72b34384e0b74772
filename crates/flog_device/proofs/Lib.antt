pub mod Moves
pub mod Pages
pub mod Kept
