-- What the code sees of its own results.
pub mod Lines
