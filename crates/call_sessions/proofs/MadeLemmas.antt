pub mod MadeInUse
pub mod MadeBytes
pub mod MadeJournal
