-- The code's view of names and nodes that go.
pub mod Naming
pub mod Dropping
