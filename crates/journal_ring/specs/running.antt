pub mod Running
pub mod Plan
pub mod Open
pub mod Closing
pub mod code
pub mod laws
