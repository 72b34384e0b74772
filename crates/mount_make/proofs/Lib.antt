mod NewBlocks
pub mod MapBytes
pub mod Filling
pub mod MadeVolumes
pub mod MadeImages
mod MadeMaps
