-- Laws that definitions rest on.
pub mod Numbers
