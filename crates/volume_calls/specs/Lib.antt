-- What the code of calls on a volume has besides the definitions of the layers below.
pub mod Asked
pub mod Births
pub mod code
pub mod opened
