mod Fronts
mod Slices
pub mod Descriptors
pub mod Revokes
mod TagKinds
mod Writes
