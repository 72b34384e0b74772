pub mod CallsRead
pub mod Filled
