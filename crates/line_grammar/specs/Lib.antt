pub mod events
pub mod calls
