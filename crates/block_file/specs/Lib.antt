pub mod Blocks
pub mod Life
pub mod Places
