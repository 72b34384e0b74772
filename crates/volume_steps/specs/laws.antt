-- What proofs of calls on a volume need.
pub mod Sample
pub mod Steady
