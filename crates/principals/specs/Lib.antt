pub mod Kept
pub mod Line
pub mod Table
pub mod TableText
pub mod TableTextLaws
