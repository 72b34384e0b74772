-- What the code sees of a tree.
pub mod LogNodes
