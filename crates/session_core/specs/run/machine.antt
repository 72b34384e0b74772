pub mod Machine
pub mod Fits
pub mod MadeStart
