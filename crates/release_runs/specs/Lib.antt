pub mod Crashes
pub mod Steps
pub mod Runs
pub mod Released
pub mod UsedOnce
