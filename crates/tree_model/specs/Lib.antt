-- What trees, their text and calls on them are.
pub mod CallWords
pub mod Calls
pub mod Causes
pub mod Histories
pub mod Maps
pub mod Paths
pub mod Plain
pub mod Rooted
pub mod Text
pub mod Trees
pub mod code
pub mod laws
