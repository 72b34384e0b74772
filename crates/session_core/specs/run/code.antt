-- What the code of the parts stands on: their values, and the states that they reach.
pub mod Fields
pub mod Queues
pub mod Session
pub mod Reached
