pub mod Holds
pub mod Judging
pub mod Moves
pub mod Genuine
pub mod Views
pub mod Among
pub mod ScriptKeys
pub mod Lists
mod Chunks
mod TableTexts
mod Whole
mod Firsts
mod Acting
mod SignedTable
mod HonestViews
mod Contents
mod Causes
mod Certificates
pub mod BlocksOf
pub mod Origins
pub mod Tables
pub mod ByCertificates
mod ListedKeys
mod Agreed
mod AllWhole
mod AllHonest
mod RunWorlds
pub mod LastViews
mod Shown
mod Begun
mod OneWorld
mod LaidFiles
mod SameEvents
mod Growing
mod Premises
pub mod Consistent
mod OwnChanges
mod OwnParts
mod Signed
pub mod Served
mod Slots
pub mod Backed
mod LaidOut
mod Filled
pub mod AllFilled
pub mod Serving
