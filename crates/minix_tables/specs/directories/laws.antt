-- Laws of the slots of a directory.
pub mod Slots
pub mod Found
pub mod Edited
pub mod Led
pub mod FirstFree
pub mod Told
