pub mod Signed
pub mod SignedLaws
pub mod Reply
pub mod ReplyLaws
pub mod Groups
pub mod GroupsLaws
