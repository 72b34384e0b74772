pub mod AsciiLines
pub mod BulkLemmas
