pub mod Accepts
pub mod FirstFault
pub mod HeaderRead
pub mod MadeScripts
pub mod Names
pub mod Others
mod PutBytes
pub mod ReadsTo
pub mod Said
pub mod Spelled
pub mod WellFormed
