pub mod LogRing
pub mod Journal
pub mod Commits
pub mod code
pub mod laws
pub mod running
