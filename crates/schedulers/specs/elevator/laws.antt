-- The laws of the elevator.
pub mod Eligible
pub mod List
pub mod Scheduler
pub mod Valid
