pub mod Left
pub mod Events
pub mod Example
