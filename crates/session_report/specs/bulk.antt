pub mod Workload
pub mod Summary
pub mod code
