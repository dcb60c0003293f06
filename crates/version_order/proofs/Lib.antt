pub mod Rows
pub mod Raising
pub mod Recording
pub mod SideBySide
