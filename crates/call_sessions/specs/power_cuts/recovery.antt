pub mod Attempts
pub mod Found
pub mod Images
pub mod code
