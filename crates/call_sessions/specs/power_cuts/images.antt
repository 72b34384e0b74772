pub mod Requests
pub mod SessionImages
