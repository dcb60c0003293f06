pub mod Lives
mod Accepted
mod Declared
mod Along
mod Looking
mod Begun
mod Told
mod Commands
mod Users
pub mod Worlds
