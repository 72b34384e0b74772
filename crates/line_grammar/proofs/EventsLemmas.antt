pub mod ClearLines
pub mod EventLaws
pub mod EventNames
pub mod SteerLaws
pub mod SteerSteps
