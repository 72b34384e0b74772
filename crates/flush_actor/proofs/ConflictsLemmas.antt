pub mod Steps
pub mod CommitBlocks
