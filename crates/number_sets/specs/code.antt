-- What private functions answer.
pub mod Places
