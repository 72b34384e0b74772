-- The texts of a session's answers.
pub mod Replies
pub mod Lines
