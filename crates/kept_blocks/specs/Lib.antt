pub mod KeptBlocks
pub mod KeptBlocksLaws
pub mod Keeping
pub mod KeepingLaws
