mod Bools
pub mod FitLaws
mod InTurn
pub mod KeyLaws
mod KeysRead
mod LastKeys
mod LineLaws
pub mod ListedKeys
mod MarksLaws
mod OpenLaws
pub mod Parts
pub mod SizeLaws
pub mod Users
