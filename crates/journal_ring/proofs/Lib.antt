mod Waiting
mod Places
pub mod RunningLemmas
