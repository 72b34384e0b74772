pub mod Grammar
pub mod Made
pub mod WellFormed
pub mod Words
pub mod laws
