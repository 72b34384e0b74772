-- What calls that take names away ask of a volume.
pub mod May
pub mod code
