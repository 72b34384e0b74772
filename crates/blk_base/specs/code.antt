-- Words of the code.
pub mod Bodies
