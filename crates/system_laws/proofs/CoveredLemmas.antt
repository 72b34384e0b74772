pub mod CoveredCalls
pub mod Meant
pub mod Metadata
pub mod Replies
pub mod ShownVersions
