pub mod AllFound
pub mod FoundInReports
pub mod Replays
pub mod Ends
pub mod Reports
pub mod SidesLemmas
