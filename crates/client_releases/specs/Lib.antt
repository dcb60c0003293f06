pub mod Errors
pub mod OwnKeys
pub mod Releasing
pub mod Told
