pub mod Dealt
pub mod Drawn
pub mod Formed
