-- What the code answers, as the steps have it.
pub mod Told
