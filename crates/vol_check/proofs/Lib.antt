-- Lemmas on checks of volumes.
pub mod Reached
pub mod NameSums
pub mod Tables
pub mod Decisions
pub mod Counts
pub mod Firsts
pub mod Volumes
pub mod CleanTrees
pub mod SameClean
pub mod SameMetadata
pub mod KeptCleanLemmas
