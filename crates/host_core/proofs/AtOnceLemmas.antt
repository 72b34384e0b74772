pub mod Rows
pub mod Answered
pub mod Machine
pub mod Waiting
pub mod Finds
