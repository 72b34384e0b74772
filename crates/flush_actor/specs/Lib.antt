pub mod Kinds
pub mod Waits
pub mod Part
pub mod Outcomes
pub mod Steps
pub mod Actor
pub mod code
pub mod conflicts
