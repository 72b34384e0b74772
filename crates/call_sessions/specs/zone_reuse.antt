pub mod Freeing
pub mod Reusing
