-- What the host keeps, and what it is promised.
pub mod Choices
pub mod Contract
pub mod Facts
pub mod PlanNotes
pub mod Reuse
pub mod Rows
pub mod Rules
pub mod Sample
