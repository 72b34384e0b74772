pub mod Kept
pub mod Frames
pub mod Moves
pub mod Spools
pub mod Ordered
pub mod Grown
pub mod Sequences
pub mod Programs
