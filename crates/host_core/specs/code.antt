-- What the code keeps of its own fields, and how a step goes.
pub mod Steps
pub mod Fields
pub mod Replies
pub mod Progress
pub mod HostTraces
pub mod Known
