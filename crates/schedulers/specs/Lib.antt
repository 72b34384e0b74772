pub mod reassign
pub mod epochs
pub mod elevator
pub mod dispatch
