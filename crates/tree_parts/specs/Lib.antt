pub mod Blocks
pub mod Spot
pub mod Part
pub mod Slots
pub mod Asked
pub mod Acts
