-- How a session's run on one scheduler ends, and what the laws say of that.
pub mod Ends
pub mod Cuts
pub mod Steps
