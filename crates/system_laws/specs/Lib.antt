pub mod answered
pub mod covered
pub mod progress
pub mod transaction_size
