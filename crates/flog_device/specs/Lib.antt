pub mod Device
pub mod Log
pub mod Rows
pub mod code
pub mod laws
