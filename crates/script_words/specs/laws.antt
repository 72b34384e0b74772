-- The words of laws.
pub mod Counts
pub mod Texts
pub mod FirstFault
