-- How the code keeps its values, and what its parts leave as it was.
pub mod Homes
pub mod Scans
pub mod Plans
pub mod Sending
pub mod Runs
pub mod Journals
