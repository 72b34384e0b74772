-- Lemmas on clean volumes that change.
pub mod PlainClean
pub mod ChangedLemmas
