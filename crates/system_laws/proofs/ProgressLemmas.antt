pub mod UnsentPages
pub mod CommitSteps
pub mod BegunSteps
pub mod Waiting
pub mod MadeProgress
pub mod SomeWaits
pub mod Targets
pub mod MadeBarriers
