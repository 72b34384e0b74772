-- What the host keeps along a run.
pub mod Chunks
pub mod Traces
pub mod Written
pub mod RingFacts
pub mod CallFacts
pub mod FlushFacts
pub mod Kept
