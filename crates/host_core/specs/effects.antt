-- What a call that was done makes of journal, pages and owners.
pub mod Effects
pub mod Parts
pub mod code
