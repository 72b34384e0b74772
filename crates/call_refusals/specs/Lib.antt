-- The tables of calls.
pub mod Conditions
pub mod Examples
pub mod Tables
