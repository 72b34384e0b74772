pub mod LeftFacts
pub mod Later
pub mod Applied
pub mod Threads
pub mod Barriers
