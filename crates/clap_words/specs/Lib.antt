pub mod App
pub mod Reads
pub mod Table
