-- Volumes that were read, as volumes in use.
pub mod Opened
pub mod code
