-- Lemmas on the code of calls.
pub mod WalkSteps
pub mod DirectorySlots
pub mod WriteTakes
pub mod Applied
pub mod CalledSteps
pub mod KeptNumbers
pub mod Doing
pub mod AskReplies
pub mod AskSteps
pub mod Renamed
mod LastBirths
pub mod OpenedLemmas
