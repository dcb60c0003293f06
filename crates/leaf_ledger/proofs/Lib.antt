mod Files
mod Follows
pub mod Lives
pub mod Marked
mod Parts
mod Replays
mod Taken
