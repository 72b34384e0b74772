pub mod Finding
pub mod Gathered
pub mod Joining
pub mod Picking
pub mod Steps
