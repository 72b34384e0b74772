-- What the code sees of its own fields.
pub mod Left
pub mod WordSteps
