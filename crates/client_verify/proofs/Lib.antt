pub mod Declared
mod DeclaringKey
pub mod GenesisLaws
pub mod Handing
pub mod Holds
pub mod LaidLaws
pub mod Releasing
pub mod ByDevices
pub mod Standing
pub mod Steps
pub mod Telling
