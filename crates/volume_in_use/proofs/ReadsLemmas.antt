-- Lemmas on what nodes answer.
pub mod Listed
pub mod Nodes
pub mod Steps
pub mod TreeTurns
