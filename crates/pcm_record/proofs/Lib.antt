pub mod Stands
pub mod Held
pub mod Moving
pub mod Capturing
pub mod Resuming
pub mod Telling
