pub mod Highest
pub mod GroupsLaws
pub mod Rows
