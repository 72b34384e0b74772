-- What a call makes of the blocks that it tells as touched.
pub mod Changed
pub mod Tidy
