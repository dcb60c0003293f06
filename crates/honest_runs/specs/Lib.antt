pub mod HonestRuns
pub mod Served
pub mod Town
