pub mod Listed
pub mod Sends
pub mod Machine
