-- The words of laws, and lemmas.
pub mod Speller
