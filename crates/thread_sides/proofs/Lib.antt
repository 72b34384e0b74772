pub mod Admitting
pub mod Lists
pub mod SchedEvents
pub mod SchedSteps
pub mod DeviceEvents
pub mod DeviceSteps
