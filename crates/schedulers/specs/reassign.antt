pub mod Epoch
pub mod MayLeave
pub mod Sched
pub mod Scheduler
pub mod code
pub mod laws
