pub mod NowLemmas
pub mod ReadsLemmas
pub mod BytesLemmas
