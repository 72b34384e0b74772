pub mod Fields
pub mod Helpers
pub mod Logged
