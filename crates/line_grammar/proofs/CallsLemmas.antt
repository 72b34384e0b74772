pub mod ClearCalls
pub mod Hexadecimal
pub mod LastThread
pub mod Names
pub mod Others
pub mod SaidCalls
pub mod SpelledCalls
