-- Lemmas over the steps of the code.
pub mod MapSteps
pub mod CutSteps
pub mod FreedSteps
pub mod WrittenSteps
pub mod ReadNumbers
