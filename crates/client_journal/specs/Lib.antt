pub mod Life
pub mod Places
pub mod Records
pub mod Told
