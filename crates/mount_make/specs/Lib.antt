pub mod Images
pub mod ImageTrees
pub mod Made
pub mod code
pub mod laws
