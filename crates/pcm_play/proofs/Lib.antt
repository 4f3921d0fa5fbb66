pub mod Refills
pub mod Stands
pub mod Held
pub mod Moving
pub mod Refilling
pub mod Resuming
pub mod Telling
