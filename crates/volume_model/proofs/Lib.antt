mod Moves
mod Places
pub mod Nodes
pub mod SameTrees
pub mod Images
mod UsedSlots
pub mod Bytes
pub mod ImageSlots
mod FromImages
mod MovedSums
pub mod NewVolumes
pub mod FoundNodes
pub mod ToldBlocks
pub mod EditingLemmas
