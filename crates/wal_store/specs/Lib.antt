pub mod Blocks
pub mod Log
pub mod Puts
pub mod code
pub mod calls
