pub mod AnsweredLemmas
pub mod CoveredLemmas
pub mod MadeSession
pub mod ProgressLemmas
pub mod SessionsLemmas
pub mod TidyLemmas
pub mod TransactionSizeLemmas
pub mod WidenedLemmas
