pub mod CallLines
pub mod Programs
pub mod WellFormed
pub mod laws
