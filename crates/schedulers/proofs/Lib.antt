pub mod ReassignLemmas
pub mod EpochsLemmas
pub mod ElevatorLemmas
pub mod DispatchLemmas
