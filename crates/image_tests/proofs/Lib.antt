pub mod Recovering
pub mod CallRules
pub mod FirstZones
pub mod RevokedBlocks
pub mod SlotZones
