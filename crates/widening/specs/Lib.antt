pub mod Written
pub mod Directories
pub mod Widened
pub mod Changed
pub mod WideTrees
pub mod code
