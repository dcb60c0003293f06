pub mod Paths
pub mod Files
pub mod Rows
pub mod Quoting
pub mod Answers
pub mod Asked
pub mod Names
