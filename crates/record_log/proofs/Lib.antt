pub mod Appended
pub mod Chains
mod Found
mod Headers
pub mod Lives
mod Opened
mod Reached
mod Room
mod Staged
