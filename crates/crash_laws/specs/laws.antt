-- Laws, their lemmas and the words of lemmas.
pub mod BrokenExamples
pub mod CallFacts
pub mod Changes
pub mod Clauses
pub mod Example
pub mod Extending
pub mod HostFacts
pub mod PageClauses
pub mod Plans
pub mod Requests
pub mod RingFacts
pub mod Submitting
