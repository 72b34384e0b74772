pub mod zones
pub mod inodes
pub mod directories
