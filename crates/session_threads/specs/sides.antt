pub mod NoSession
pub mod Noting
pub mod HostReplay
pub mod Ended
pub mod Sides
