pub mod Asked
pub mod Writing
pub mod flash_log
