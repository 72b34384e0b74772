mod Opened
mod Turns
mod SameDivision
mod ListReplies
mod WaitsKept
mod Endings
mod Noted
mod Placed
mod Plainly
mod Steps
mod KnownKept
mod Kept
mod Stops
mod Advanced
mod Stands
pub mod BegunLemmas
pub mod GatesLemmas
pub mod EffectsLemmas
pub mod LengthsLemmas
pub mod AtOnceLemmas
