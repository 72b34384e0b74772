mod Fronts
pub mod HeldPuts
pub mod Spelled
pub mod CallsLemmas
