pub mod Requests
pub mod ReadableSteps
pub mod ReadableRuns
pub mod JournalSupers
pub mod CutImages
pub mod SessionLaws
pub mod MountedSessions
