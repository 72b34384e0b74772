-- Why a call waits.
pub mod Hindrances
