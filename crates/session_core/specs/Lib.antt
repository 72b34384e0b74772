pub mod Core
pub mod Report
pub mod Headline
pub mod CallNames
pub mod CallEnds
pub mod code
pub mod opening
pub mod run
