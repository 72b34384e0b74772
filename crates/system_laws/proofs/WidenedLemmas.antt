pub mod TakenParts
pub mod GatheredZones
pub mod ServedZones
pub mod WidenedBits
pub mod WideLinks
pub mod WideClean
pub mod WidenedClean
