-- The layout of a volume.
pub mod Bits
pub mod Geometry
pub mod Inodes
pub mod Slots
pub mod Super
pub mod Widths
pub mod Words
pub mod laws
