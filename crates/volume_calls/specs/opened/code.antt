-- The code's view of the nodes that a walk found, and what the laws say of a plain image.
pub mod Placing
pub mod Read
