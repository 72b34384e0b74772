-- Lemmas on the tables of calls.
pub mod Bytes
pub mod Calls
pub mod Examples
pub mod Moves
pub mod Names
pub mod Renames
pub mod Rooms
pub mod Told
pub mod Walks
pub mod Words
