pub mod code
pub mod Order
pub mod Program
pub mod Store
pub mod Stores
pub mod Runs
pub mod SummaryText
