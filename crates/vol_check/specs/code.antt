pub mod Births
pub mod Names
