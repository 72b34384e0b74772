pub mod EventLines
pub mod SteerLines
pub mod WellFormed
pub mod laws
