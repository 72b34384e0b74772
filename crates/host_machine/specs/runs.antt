pub mod Flushes
pub mod Runs
pub mod Opened
pub mod Promises
pub mod Sentences
pub mod laws
