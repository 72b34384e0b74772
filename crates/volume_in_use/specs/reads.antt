-- What nodes of a volume in use answer.
pub mod Replies
pub mod code
