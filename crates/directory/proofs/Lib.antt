pub mod Names
pub mod Linking
