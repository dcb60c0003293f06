pub mod Errors
pub mod KeptLog
pub mod Reading
