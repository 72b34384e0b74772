pub mod Adding
pub mod BlockRoom
pub mod CallRoom
pub mod Chunks
pub mod Notes
pub mod PlanBlocks
