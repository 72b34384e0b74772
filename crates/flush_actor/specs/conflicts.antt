pub mod Conflicts
pub mod Commits
pub mod Calls
pub mod code
pub mod laws
