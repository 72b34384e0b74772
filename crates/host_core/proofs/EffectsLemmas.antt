pub mod Noted
pub mod Cached
pub mod Machine
