pub mod Outcomes
pub mod Runs
pub mod Pairs
pub mod Programs
