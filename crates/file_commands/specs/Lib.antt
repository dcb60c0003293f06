pub mod Words
pub mod Gathering
pub mod Lines
pub mod Splitting
