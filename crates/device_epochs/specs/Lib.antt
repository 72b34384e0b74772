pub mod Cache
pub mod Device
pub mod code
pub mod laws
pub mod queue
