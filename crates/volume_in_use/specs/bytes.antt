pub mod Contents
pub mod MayWrite
pub mod code
