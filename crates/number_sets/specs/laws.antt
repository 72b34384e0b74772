-- Laws of sets of numbers.
pub mod Members
pub mod Rising
pub mod Keyed
