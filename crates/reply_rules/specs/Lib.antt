pub mod Lists
pub mod ListsLaws
pub mod Number
pub mod Rules
pub mod Split
pub mod Shown
pub mod Broken
