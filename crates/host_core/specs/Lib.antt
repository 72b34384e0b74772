-- What a host over a volume in use is.
pub mod Now
pub mod Entries
pub mod Answers
pub mod Standings
pub mod code
pub mod Done
pub mod begun
pub mod gates
pub mod effects
pub mod lengths
pub mod at_once
