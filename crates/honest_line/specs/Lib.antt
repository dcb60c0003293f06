pub mod Genuine
pub mod Naming
pub mod Answered
pub mod GoingOn
pub mod OneLine
