pub mod Moves
pub mod Newest
pub mod Searches
pub mod QueueLemmas
