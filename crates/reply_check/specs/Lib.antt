pub mod FirstBroken
pub mod Good
pub mod AskedBlock
pub mod Reached
pub mod Verified
