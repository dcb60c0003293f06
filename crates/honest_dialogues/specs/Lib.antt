pub mod Dialogue
pub mod OneLine
pub mod GoingOn
pub mod Signing
pub mod Reading
