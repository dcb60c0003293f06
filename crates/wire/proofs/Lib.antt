pub mod Framed
pub mod Streams
