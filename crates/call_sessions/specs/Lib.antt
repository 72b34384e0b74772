pub mod CallsAs
pub mod Sessions
pub mod made
pub mod promises
pub mod power_cuts
pub mod zone_reuse
