pub mod Events
pub mod Noting
pub mod Declining
pub mod Telling
pub mod Happening
pub mod StepByStep
pub mod Serving
pub mod Keeping
