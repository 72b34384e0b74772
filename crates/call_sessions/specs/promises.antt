pub mod Entries
pub mod Causes
pub mod Trees
pub mod Legal
pub mod Answers
