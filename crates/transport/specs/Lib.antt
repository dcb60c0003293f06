pub mod Ahead
pub mod Asked
pub mod Connecting
pub mod ConnectingLaws
pub mod Framing
pub mod Receiving
