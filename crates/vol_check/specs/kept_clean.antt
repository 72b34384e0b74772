-- What the maps of a volume in use say.
pub mod Marked
pub mod changed
