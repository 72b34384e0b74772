-- What the walk through a volume is, and what it finds.
pub mod Defects
pub mod Faultless
pub mod Faults
pub mod VolumeFields
pub mod FirstFault
pub mod Marks
pub mod Metadata
pub mod Places
pub mod Reads
pub mod Slots
pub mod Volume
pub mod VolumeTrees
pub mod Walk
pub mod ZonePlaces
pub mod Zones
pub mod code
pub mod laws
