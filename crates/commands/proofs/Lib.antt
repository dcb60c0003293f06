pub mod Free
pub mod Pieces
mod PathText
mod FileNames
