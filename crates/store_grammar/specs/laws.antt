-- The words of laws.
pub mod Accepted
pub mod FirstFault
pub mod Speller
