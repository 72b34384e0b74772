-- Lemmas on volumes that are opened.
pub mod AllZones
pub mod InUse
pub mod OpenSteps
pub mod PlacedNodes
pub mod Reading
pub mod UsedSteps
pub mod Whole
pub mod ZoneMarks
