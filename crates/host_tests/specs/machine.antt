-- What the laws of the host's machine speak of.
pub mod Asking
pub mod Closing
pub mod FullHosts
pub mod HeldHosts
pub mod Samples
pub mod Shares
pub mod WaitingHosts
