-- The code's view of directories and nodes.
pub mod NewSlot
pub mod Steps
pub mod InodeMap
