-- Laws of recovery.
pub mod Revokes
pub mod Tables
pub mod Homes
pub mod Sends
pub mod Attempts
pub mod Drives
pub mod Ends
pub mod Plans
pub mod Whole
pub mod Scans
pub mod Recoveries
pub mod Failures
pub mod Reads
