pub mod Fronts
pub mod Spans
