pub mod Owners
pub mod ZoneFacts
pub mod HostSteps
pub mod RunSteps
pub mod SessionRuns
