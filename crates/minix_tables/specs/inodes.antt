-- The file map of an inode.
pub mod Map
pub mod laws
