pub mod Device
pub mod Followed
pub mod Ledger
pub mod Life
pub mod Moments
pub mod Recording
pub mod Writes
