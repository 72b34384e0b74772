-- One step of a plain call.
pub mod Steps
pub mod Parts
pub mod Replies
pub mod code
