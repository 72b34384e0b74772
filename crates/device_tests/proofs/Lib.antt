mod Asked
mod Devices
mod KeptCommands
pub mod FlashLogLemmas
