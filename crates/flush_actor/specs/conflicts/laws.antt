-- Laws of conflicts, and of commit blocks.
pub mod Holds
pub mod Wants
pub mod CommitBlocks
