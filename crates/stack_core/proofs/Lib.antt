pub mod DirectPath
pub mod Paths
pub mod Fitting
pub mod Opening
pub mod Repeats
pub mod Scheduled
pub mod Dispatches
