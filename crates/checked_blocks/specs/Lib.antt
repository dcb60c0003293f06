pub mod CheckedBlocks
pub mod Moves
