pub mod Placed
pub mod Honest
pub mod Served
pub mod Answered
pub mod OneLine
