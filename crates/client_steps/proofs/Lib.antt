pub mod Joins
pub mod Opened
pub mod Anywhere
pub mod Answered
pub mod Heard
