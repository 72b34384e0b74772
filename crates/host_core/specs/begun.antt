-- What a begun call does.
pub mod Causes
pub mod Steps
pub mod Parts
pub mod code
