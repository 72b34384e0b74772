pub mod Grammar
pub mod WellFormed
pub mod Words
pub mod code
pub mod laws
