-- Laws of running transactions and their log blocks.
pub mod Notes
pub mod Plans
