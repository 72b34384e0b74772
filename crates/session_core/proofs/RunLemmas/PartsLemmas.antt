pub mod Numbers
pub mod Counts
pub mod Idling
pub mod Waiting
