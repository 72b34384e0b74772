mod Notes
mod Completions
mod Waiting
mod Holds
pub mod ConflictsLemmas
