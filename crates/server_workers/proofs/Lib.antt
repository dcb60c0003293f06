pub mod Carrying
pub mod Conversations
pub mod Parts
pub mod Relays
pub mod Sent
pub mod Written
