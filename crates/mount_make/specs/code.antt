-- What the steps of mounting and making keep.
pub mod Mounting
pub mod Making
