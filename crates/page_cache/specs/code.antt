pub mod Keys
pub mod Gap
pub mod Store
pub mod Frames
pub mod Pages
