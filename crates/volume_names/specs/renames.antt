-- What renames are and ask, where both paths have led.
pub mod Renamed
pub mod May
pub mod code
