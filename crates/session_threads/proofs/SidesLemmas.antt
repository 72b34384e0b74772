pub mod HostEvents
pub mod HostSteps
pub mod Fits
