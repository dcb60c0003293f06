mod Bits
pub mod Blocks
pub mod Places
pub mod Schedules
pub mod ShortTexts
pub mod ValueBytes
