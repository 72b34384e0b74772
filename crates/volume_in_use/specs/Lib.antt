pub mod now
pub mod reads
pub mod bytes
