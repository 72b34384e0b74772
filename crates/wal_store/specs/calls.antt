pub mod CallText
pub mod Calls
