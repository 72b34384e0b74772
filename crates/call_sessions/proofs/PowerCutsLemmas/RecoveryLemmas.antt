pub mod Attempted
pub mod FoundSessions
pub mod Kept
pub mod Mounted
pub mod SaidSteps
pub mod TailCounts
