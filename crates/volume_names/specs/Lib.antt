-- What calls on names ask of a volume.
pub mod May
pub mod UsedInodes
pub mod code
pub mod removals
pub mod renames
