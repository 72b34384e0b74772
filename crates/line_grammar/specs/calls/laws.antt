-- The words of laws.
pub mod Speller
