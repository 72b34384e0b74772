-- What a clean volume is, and what a check of one tells.
pub mod Clean
pub mod CleanTrees
pub mod Images
pub mod Verdicts
pub mod code
pub mod kept_clean
