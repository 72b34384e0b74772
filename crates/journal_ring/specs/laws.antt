-- Laws of the ring.
pub mod Homes
pub mod Committed
pub mod Waiting
pub mod Places
