pub mod Header
pub mod Super
pub mod Blocks
pub mod Written
pub mod Log
pub mod Readers
pub mod laws
pub mod code
