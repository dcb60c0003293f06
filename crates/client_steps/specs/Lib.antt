pub mod Steps
pub mod Anywhere
pub mod NotCalled
