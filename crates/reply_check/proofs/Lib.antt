pub mod Judging
pub mod ListsLaws
pub mod ReachedLaws
pub mod ReplyReached
pub mod ByTableLaws
pub mod VerifiedLaws
