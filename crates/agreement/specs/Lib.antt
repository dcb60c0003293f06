pub mod Runs
pub mod Lines
pub mod Worlds
pub mod AfterNewest
