pub mod Spelling
pub mod LineByLine
pub mod code
pub mod laws
