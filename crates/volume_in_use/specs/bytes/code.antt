-- What the code does to a file that is open.
pub mod Work
pub mod Cutting
pub mod Listed
pub mod Wants
