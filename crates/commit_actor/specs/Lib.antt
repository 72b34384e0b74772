pub mod Journal
pub mod Steps
pub mod Actor
pub mod Calls
pub mod code
