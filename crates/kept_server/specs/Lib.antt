pub mod Events
pub mod Kept
pub mod Stays
pub mod Synced
