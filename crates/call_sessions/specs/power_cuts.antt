pub mod images
pub mod recovery
pub mod calls
