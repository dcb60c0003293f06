mod OneMore
mod Opened
mod Reasons
mod Replays
