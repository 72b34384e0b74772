pub mod CutCalls
pub mod ShownBlocks
pub mod ShownFiles
