-- Lemmas on volumes that were made.
pub mod MadeTidy
