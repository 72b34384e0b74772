-- Laws of the blocks of a journal.
pub mod Supers
pub mod Tags
pub mod Numbers
pub mod Headers
pub mod Kinds
pub mod Faults
pub mod Escapes
pub mod Logs
pub mod Readers
