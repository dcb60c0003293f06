pub mod Exchanges
pub mod Reading
