-- Laws of the map of zones.
pub mod States
pub mod Lowest
pub mod Counts
pub mod Lasting
