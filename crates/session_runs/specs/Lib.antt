pub mod Lives
pub mod Told
