pub mod MachineLemmas
pub mod VolumesLemmas
pub mod StillNames
